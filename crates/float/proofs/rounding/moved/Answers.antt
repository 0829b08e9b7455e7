-- `rounding::moved` meets its contract, whatever `near` is. Assumes nothing.
use Rattle.float.proofs.RootLaws.{nearest-is}
use Rattle.float.proofs.rounding.moved.Goals as goal

pub returns : goal.returns
returns c = nearest-is _ c.loop-h-2.h c.loop-h-2.invariant.0 c.loop-h-2.invariant.1 c.loop-h-2-test.false
