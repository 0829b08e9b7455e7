use Rattle.std.proofs.Common.{◌≡◌, length, get_or}
use Rattle.std.specs.Float.{nan}
use Rattle.player.specs.inner.Columns.{Filled}
use Rattle.player.proofs.noise.bands.gather_makeup.Given as goal

abbrev pub invariant-loop-l : goal.invariant-loop-l
invariant-loop-l l = (length l.makeup ≡ 32) × Filled l.makeup (λ i. get_or l.compensation (get_or l.live i 0) nan) l.l
