-- `scatter_memories` meets its contract.
use Rattle.std.proofs.Common.{refl, get_or}
use Rattle.voice.specs.Lists.{steps}
use Rattle.voice.specs.Voice.{with_memory}
use Rattle.player.specs.inner.Columns.{state_of_columns}
use Rattle.voice.proofs.Loops.{steps-again}
use Rattle.player.proofs.noise.bands.scatter_memories.Goals as goal

pub loop-l-init : goal.loop-l-init
unfolding steps
loop-l-init c = refl

pub loop-l-preserved : goal.loop-l-preserved
loop-l-preserved c =
    rw c.band_of-at.ensures
    (steps-again (λ l ms. with_memory ms (get_or c.args.live.now l 0) (state_of_columns c.args.z1.now c.args.z2.now l)) _ c.loop-l.memories c.loop-l.l c.loop-l.invariant)
