use mathlib.Core.Path.{sym, ap, ◌∙◌}
use Rattle.std.proofs.lemmas.Result.{err_from_is_err_and}
use Rattle.table.specs.Answer.{counts}
use Rattle.table.proofs.ReadLaws.{read_no, read-go}
use Rattle.table.proofs.read.from_bytes.Goals as goal

pub returns-in_err-h : goal.returns-in_err-h
returns-in_err-h c =
    let p = err_from_is_err_and c.from_residual.result c.from_residual.ensures.1 in
    rw (p.1, p.2) (sym (ap counts (read_no _ _ (sym c.in_err-h.ensures))))

pub returns : goal.returns
returns c =
    c.entries_at.ensures.reading ∙ sym (read-go _ _ _ (sym c.in_ok-h.ensures))
