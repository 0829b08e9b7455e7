use mathlib.Core.Path.{sym, ap, ◌∙◌}
use Rattle.std.proofs.lemmas.Result.{err_from_is_err_and}
use Rattle.table.specs.Answer.{counts}
use Rattle.table.proofs.ReadLaws.{read_no, read-go, head-header}
use Rattle.table.proofs.ViewsLaws.{put_first, kept-are}
use Rattle.table.proofs.views.views_of.Goals as goal

pub returns-in_err-h : goal.returns-in_err-h
returns-in_err-h c =
    let p = err_from_is_err_and c.from_residual.result c.from_residual.ensures.1 in
    rw (p.1, p.2) (record { reading = sym (ap counts (read_no _ _ (sym c.in_err-h.ensures))); views = tt })

pub returns-in_err-counts : goal.returns-in_err-counts
returns-in_err-counts c =
    let p = err_from_is_err_and c.from_residual-in_err-counts.result c.from_residual-in_err-counts.ensures.1 in
    rw (p.1, p.2) (record { reading = c.in_err-counts.ensures.reading ∙ sym (read-go _ _ _ (sym c.in_ok-h.ensures)); views = tt })

pub returns : goal.returns
returns c =
    let g = sym c.in_ok-h.ensures in
    let e = c.in_ok-counts.ensures.reading ∙ sym (read-go _ _ _ g) in
    let kept = rw c.no_view-views.ensures at c.entries_at.ensures.kept in
    record { reading = e; views = kept ∙ put_first _ _ ∙ kept-are _ _ _ _ _ (head-header _ _ _ g) (sym e) }
