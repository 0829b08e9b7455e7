use mathlib.Core.Path.{◌≡◌}
use lib.ListN.{length}
use Rattle.player.specs.inner.Columns.{Ticked}
use Rattle.player.proofs.ColumnLaws.{KeptFrom}
use Rattle.player.proofs.noise.bands.tick_bands.Given as goal

abbrev pub invariant-loop-l : goal.invariant-loop-l
invariant-loop-l l = (length l.ys ≡ 32) × (length l.z1 ≡ 32) × (length l.z2 ≡ 32) × KeptFrom l.z1 l.initial.z1 l.l × KeptFrom l.z2 l.initial.z2 l.l × Ticked l.ys l.z1 l.z2 l.initial.z1 l.initial.z2 l.coeffs l.x l.l
