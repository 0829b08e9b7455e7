use mathlib.Core.Path.{sym, ap, ◌∙◌}
use Rattle.std.proofs.lemmas.Result.{err_from_is_err_and}
use Rattle.wire.proofs.Many.{many-no, many-end}
use Rattle.table.specs.Image.{pair}
use Rattle.table.specs.inner.Answers.{skips}
use Rattle.table.proofs.MetadataLaws.{skip-go}
use Rattle.table.proofs.metadata.skip_pairs.Goals as goal

pub returns-in_err-pair : goal.returns-in_err-pair
returns-in_err-pair c =
    let p = err_from_is_err_and c.from_residual.result c.from_residual.ensures.1 in
    rw (p.1, p.2) (sym (sym c.loop-i.invariant ∙ ap skips (many-no (λ i. pair) _ _ _ _ _ c.loop-i-test.true (sym c.in_err-pair.ensures))))

pub loop-i-preserved : goal.loop-i-preserved
loop-i-preserved c =
    sym (skip-go _ _ _ _ _ _ c.loop-i-test.true (sym c.in_ok-pair.ensures)) ∙ c.loop-i.invariant

pub returns : goal.returns
returns c =
    sym (ap skips (many-end (λ i. pair) _ _ _ _ c.loop-i-test.false)) ∙ c.loop-i.invariant
