-- `partial_sum` meets its contract.
use Rattle.std.proofs.Common.{sym, ◌∙◌, false, arith}
use lib.Ieee.{binary32, of_bits, round}
use lib.Ieee.Fits.{round-fits}
use borrow.Author.Tests.{eq-eqb, ne_eqb}
use Rattle.float.specs.F32.{quotient}
use Rattle.player.specs.Sound.{blend_coeff}
use Rattle.player.proofs.ColumnLaws.{first-row, first-sum}
use Rattle.player.proofs.TermLaws.{partial-stored}
use Rattle.player.proofs.partials.sum.partial_sum.Goals as goal

pub returns-then-x-eq0 : goal.returns-then-x-eq0
unfolding of_bits round
returns-then-x-eq0 c =
    let a = c.args in
    c.sum_of.ensures
    ∙ first-sum c.partial_terms.new.terms _ (quotient 0 1) a.x.m (omega arith) (round-fits binary32 false 0 1)
    (λ i h z f. partial-stored z _ _ _ _ _ _ _ _ f (c.partial_terms.ensures.at i h) (rw (eq-eqb _ _ c.if-x-eq0.true) (sym (first-row a.tuning.now.rows i))) c.term_gain-gain.ensures)

pub returns : goal.returns
unfolding of_bits round blend_coeff
returns c =
    let a = c.args in
    let B = c.blend.ensures (λ x. x) (λ x r e. e) in
    c.sum_of-2.ensures
    ∙ first-sum c.partial_terms-2.new.terms _ (quotient 0 1) a.x.m (omega arith) (round-fits binary32 false 0 1)
    (λ i h z f. partial-stored z _ _ _ _ _ _ _ _ f (c.partial_terms-2.ensures.at i h) (rw (ne_eqb _ _ c.if-x-eq0.false) (B.at i h)) c.term_gain-gain.ensures)
