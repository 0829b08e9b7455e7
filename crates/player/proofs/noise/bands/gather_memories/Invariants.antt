use Rattle.std.proofs.Common.{◌≡◌, length}
use Rattle.player.specs.inner.Columns.{Memories}
use Rattle.player.proofs.noise.bands.gather_memories.Given as goal

abbrev pub invariant-loop-l : goal.invariant-loop-l
invariant-loop-l l = (length l.z1 ≡ 32) × (length l.z2 ≡ 32) × (length l.memories ≡ 32) × Memories l.z1 l.z2 l.memories l.live l.l
