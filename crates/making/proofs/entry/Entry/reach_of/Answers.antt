use Prim.Native.Nat.{◌+◌, ◌-◌}
use mathlib.Core.Path.{◌≡◌, sym, ap, ◌∙◌}
use native.Mathlib.Omega.{arith}
use lib.Ieee.{of_bits, round}
use Rattle.making.specs.Making.{partial_reach, is_nonzero}
use Rattle.making.proofs.CoeffLaws.{reach-hit, reach-miss}
use Rattle.making.proofs.entry.Entry.reach_of.Goals as goal

pub returns-then-partial_coeff : goal.returns-then-partial_coeff
unfolding of_bits round
returns-then-partial_coeff c =
    let e : c.loop-i.i - 1 + 1 ≡ c.loop-i.i = omega arith in
    e ∙ reach-hit _ _ _ _ c.loop-i.invariant c.loop-i-test.true (ap is_nonzero (sym c.partial_coeff.ensures) ∙ c.if-partial_coeff.true)

pub loop-i-preserved : goal.loop-i-preserved
unfolding of_bits round
loop-i-preserved c =
    reach-miss _ _ _ _ c.loop-i.invariant c.loop-i-test.true (ap is_nonzero (sym c.partial_coeff.ensures) ∙ c.if-partial_coeff.false)

pub returns : goal.returns
unfolding partial_reach
returns c =
    let z : c.loop-i.i ≡ 0 = omega arith in rw z at c.loop-i.invariant
