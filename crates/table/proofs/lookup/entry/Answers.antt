use mathlib.Core.Path.{refl, sym, ap, ◌∙◌}
use Rattle.table.specs.Answer.{counts}
use Rattle.table.proofs.AcceptedLaws.{header-none, header-some}
use Rattle.table.proofs.LookupLaws.{view-table}
use Rattle.table.proofs.lookup.entry.Goals as goal

pub returns-in-Ok : goal.returns-in-Ok
returns-in-Ok c =
    header-some _ _ _ (sym c.in-Ok.ensures.means) λ e g p.
    c.entry_among.ensures ∙ sym (view-table _ _ _ _ _ _ (ap counts p) g)

pub returns-in-Err : goal.returns-in-Err
returns-in-Err c = rw (header-none _ _ (sym c.in-Err.ensures.means)) refl
