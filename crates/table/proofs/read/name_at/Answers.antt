use mathlib.Core.Path.{refl, sym}
use Rattle.table.proofs.AcceptedLaws.{header-none}
use Rattle.table.proofs.read.name_at.Goals as goal

pub returns-in-Err : goal.returns-in-Err
returns-in-Err c = rw (header-none _ _ (sym c.in-Err.ensures.means)) refl
