use Rattle.std.proofs.Common.{◌≡◌, ◌+◌, length}
use Rattle.player.specs.inner.Columns.{Filled}
use Rattle.player.specs.Phase.{partial_freq, step_of}
use Rattle.player.proofs.tuning.steps_of.Given as goal

abbrev pub invariant-loop-i : goal.invariant-loop-i
invariant-loop-i l =
    (length l.freqs ≡ 32) × (length l.incs ≡ 32) × Filled l.freqs (λ i. partial_freq (i + 1) l.f0 l.stretch) l.i
    × Filled l.incs (λ i. step_of (i + 1) l.f0 l.stretch l.inv) l.i
