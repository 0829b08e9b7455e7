-- `blend_coeff` meets its contract.
use Rattle.std.proofs.Common.{refl, arith}
use lib.Ieee.{of_bits, round}
use Rattle.voice.specs.Lists.{steps}
use Rattle.player.specs.Sound.{blend_coeff}
use Rattle.voice.proofs.Loops.{steps-again, steps-full}
use Rattle.player.proofs.partials.sample.blend_coeff.Goals as goal

pub loop-q-init : goal.loop-q-init
unfolding blend_coeff steps of_bits round
loop-q-init c = refl

pub loop-q-preserved : goal.loop-q-preserved
unfolding blend_coeff
loop-q-preserved c = rw c.place_between.ensures (steps-again _ _ _ c.loop-q.q c.loop-q.invariant)

pub returns : goal.returns
unfolding blend_coeff
returns c = steps-full _ _ _ c.loop-q.q _ (omega arith) c.loop-q.invariant
