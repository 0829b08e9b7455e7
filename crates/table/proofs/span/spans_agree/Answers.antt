-- By the answer to question 7 alone, however the code makes a bool of it.
use mathlib.Core.Path.{◌≡◌, ◌∙◌}
use mathlib.Core.List.{[], ◌∷◌}
use native.Mathlib.Omega.{arith}
use Rattle.table.specs.View.{entry_at}
use Rattle.table.specs.Span.{consistent, agrees}
use Rattle.table.proofs.SpanLaws.{both-agree}
use Rattle.table.proofs.span.spans_agree.Goals as goal

pub returns : goal.returns
returns c =
    let a = c.args in
    let e : c.is_ok.result ≡ agrees (consistent (entry_at a.s.now a.v ∷ entry_at a.t.now a.w ∷ [])) =
    c.is_ok.ensures.value
    ∙ both-agree (entry_at a.s.now a.v) (entry_at a.t.now a.w) _
    (rw (c.judge.ensures, c.span_of-2.ensures, c.judge-j.ensures, c.span_of.ensures) at c.conclude.ensures) in
    grind (arith, e)
