use mathlib.Core.Path.{refl, sym}
use Rattle.table.proofs.AcceptedLaws.{header-none, header-some}
use Rattle.table.proofs.StartLaws.{start_is}
use Rattle.table.proofs.start.entries_start.Goals as goal

pub returns-in-Ok : goal.returns-in-Ok
returns-in-Ok c =
    header-some _ _ _ (sym c.in-Ok.ensures.means) λ e g p.
    sym (start_is _ _ _ _ _ g p)

pub returns-in-Err : goal.returns-in-Err
returns-in-Err c = rw (header-none _ _ (sym c.in-Err.ensures.means)) refl
