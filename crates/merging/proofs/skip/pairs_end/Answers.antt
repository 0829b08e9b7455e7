use native.Mathlib.Omega.{arith}
use Rattle.merging.proofs.SkipLaws.{skip-turn, skip-done}
use Rattle.merging.proofs.skip.pairs_end.Goals as goal

pub number_at-size-requires : goal.number_at-size-requires
number_at-size-requires c =
    (skip-turn c.args.s.now c.args.n c.args.at c.loop.end c.loop.counter c.loop.invariant (omega arith)).pair.there

pub loop-preserved : goal.loop-preserved
loop-preserved c =
    rw c.number_at-size.ensures (skip-turn c.args.s.now c.args.n c.args.at c.loop.end c.loop.counter c.loop.invariant (omega arith)).next

pub returns : goal.returns
returns c =
    skip-done c.args.s.now c.args.n c.args.at c.loop.end c.loop.counter c.loop.invariant c.loop-test.false
