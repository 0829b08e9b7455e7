use mathlib.Core.Path.{refl, sym}
use Rattle.std.proofs.lemmas.Result.{err_from_is_err_and}
use Rattle.table.proofs.AcceptedLaws.{header-none, header-some}
use Rattle.table.proofs.desk.for_voice.Goals as goal

pub returns-in_err-h : goal.returns-in_err-h
returns-in_err-h c =
    let p = err_from_is_err_and c.from_residual.result c.from_residual.ensures.1 in
    rw (p.1, p.2, header-none _ _ (sym c.in_err-h.ensures.means)) refl

pub returns : goal.returns
returns c =
    header-some _ _ _ (sym c.in_ok-h.ensures.means) λ e g p.
    rw (c.desk_at.ensures, p) refl
