use mathlib.Core.Path.{refl}
use Rattle.sounder.proofs.BoundaryLaws.{name-held}
use Rattle.sounder.proofs.images.sounder_name.Goals as goal

pub returns : goal.returns
returns c =
    let s = c.args.image.now in
    rw (c.name_at-start.ensures, c.name-part.ensures.bytes) record { holds = name-held s; placed = refl }
