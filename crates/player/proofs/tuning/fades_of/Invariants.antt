use Rattle.std.proofs.Common.{◌≡◌, length, get_or}
use Rattle.std.specs.Float.{nan}
use Rattle.player.specs.inner.Columns.{Filled}
use Rattle.player.specs.Fade.{nyquist_fade}
use Rattle.player.proofs.tuning.fades_of.Given as goal

abbrev pub invariant-loop-i : goal.invariant-loop-i
invariant-loop-i l = (length l.fades ≡ 32) × Filled l.fades (λ i. nyquist_fade (get_or l.freqs i nan) l.nyquist) l.i
