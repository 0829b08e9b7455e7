use mathlib.Core.Path.{refl}
use Rattle.table.proofs.DeskLaws.{eighty, twelve-thousand}
use Rattle.table.proofs.desk.desk_at.Goals as goal

pub returns : goal.returns
returns c =
    rw (eighty, twelve-thousand, c.bands_among-bands.ensures, c.first_value-min_hz.ensures, c.first_value-max_hz.ensures) refl
