-- `sum_of` meets its contract.
use Rattle.std.proofs.Common.{refl}
use Rattle.voice.specs.Lists.{steps}
use Rattle.voice.proofs.Loops.{steps-again}
use Rattle.player.proofs.columns.sum_of.Goals as goal

pub loop-x-init : goal.loop-x-init
unfolding steps
loop-x-init c = refl

pub loop-x-preserved : goal.loop-x-preserved
loop-x-preserved c = steps-again _ _ _ c.loop-x.x-index c.loop-x.invariant
