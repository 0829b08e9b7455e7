-- `nyquist_fade` meets its contract.
use lib.Ieee.{of_bits, round}
use Rattle.player.specs.Fade.{nyquist_fade}
use Rattle.player.proofs.partials.fade.nyquist_fade.Goals as goal

pub returns-then-nyquist : goal.returns-then-nyquist
unfolding of_bits round nyquist_fade
returns-then-nyquist c = rw c.if-nyquist.true

pub returns-then-freq-guard_start : goal.returns-then-freq-guard_start
unfolding of_bits round nyquist_fade
returns-then-freq-guard_start c = rw (c.if-nyquist.false, c.if-freq-guard_start.true)

pub returns-then-freq-nyquist : goal.returns-then-freq-nyquist
unfolding of_bits round nyquist_fade
returns-then-freq-nyquist c = rw (c.if-nyquist.false, c.if-freq-guard_start.false, c.if-freq-nyquist.true)

pub returns-else-freq-nyquist : goal.returns-else-freq-nyquist
unfolding of_bits round nyquist_fade
returns-else-freq-nyquist c = rw (c.if-nyquist.false, c.if-freq-guard_start.false, c.if-freq-nyquist.false)
