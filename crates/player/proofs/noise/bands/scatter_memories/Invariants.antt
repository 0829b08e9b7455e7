use Rattle.std.proofs.Common.{◌≡◌}
use Rattle.player.specs.inner.Columns.{scattered}
use Rattle.player.proofs.noise.bands.scatter_memories.Given as goal

abbrev pub invariant-loop-l : goal.invariant-loop-l
invariant-loop-l l = l.memories ≡ scattered l.live l.z1 l.z2 l.initial.memories l.l
