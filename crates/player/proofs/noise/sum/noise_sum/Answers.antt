-- `noise_sum` meets its contract.
use Rattle.std.proofs.Common.{sym, ap, subst, ◌∙◌, ℕ, ◌<◌, List, get_or, arith}
use Rattle.std.specs.Float.{nan}
use Rattle.std.specs.Prelude.{Float}
use Rattle.float.proofs.Column.{rooted-at}
use lib.Dec.{T}
use borrow.Author.Tests.{eq-eqb, ne_eqb}
use Rattle.float.specs.Sqrt.{sqrt}
use Rattle.float.specs.F32.{◌⊗◌}
use Rattle.player.specs.Sound.{blend_power}
use Rattle.player.proofs.ColumnLaws.{first-row, first-sum}
use Rattle.player.proofs.TermLaws.{band-stored}
use Rattle.player.proofs.noise.sum.noise_sum.Goals as goal

pub returns-then-x-eq0 : goal.returns-then-x-eq0
returns-then-x-eq0 c =
    let a = c.args in
    c.sum_of.ensures
    ∙ first-sum c.band_terms.new.terms _ a.y a.n (omega arith) (subst T (sym c.well_formed.0.1) tt)
    (λ l h z f. band-stored z _ _ _ _ _ _ _ _ f (c.band_terms.ensures.at l h) (rw (eq-eqb _ _ c.if-x-eq0.true) (sym (first-row a.tuning.now.rows l))) c.term_gain-gain.ensures)

pub returns : goal.returns
unfolding blend_power
returns c =
    let a = c.args in
    let B = c.blend.ensures (λ x. x ⊗ x) (λ x r e. e) in
    let root = λ (l : ℕ) (h : l < a.n). ap (λ (z : List Float). get_or z l nan) c.sqrt_each.ensures ∙ rooted-at _ l _ _ h (omega arith) (omega arith) in
    c.sum_of-2.ensures
    ∙ first-sum c.band_terms-2.new.terms _ a.y a.n (omega arith) (subst T (sym c.well_formed.0.1) tt)
    (λ l h z f. band-stored z _ _ _ _ _ _ _ _ f (c.band_terms-2.ensures.at l h) (rw (ne_eqb _ _ c.if-x-eq0.false) (root l h ∙ ap sqrt (B.at l h))) c.term_gain-gain.ensures)
