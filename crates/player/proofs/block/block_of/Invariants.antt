use Rattle.voice.specs.Input.{call_of}
use Rattle.player.specs.inner.Passes.{toned}
use Rattle.player.proofs.BlockLaws.{Behind}
use Rattle.player.proofs.block.block_of.Given as goal

abbrev pub invariant-loop-ch : goal.invariant-loop-ch
invariant-loop-ch l = Behind (toned l.timbre l.state) (call_of l.shape l.inputs) l.initial.out l.out l.ch
