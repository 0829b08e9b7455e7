-- `noise_step` meets its contract.
use borrow.Author.Tests.{eq-eqb, ne_eqb}
use lib.Ieee.{of_bits, round}
use Rattle.player.proofs.noise.sum.noise_step.Goals as goal

pub returns-then-live_count-eq0 : goal.returns-then-live_count-eq0
unfolding of_bits round
returns-then-live_count-eq0 c =
    (rw c.next_bipolar-next.ensures, rw (eq-eqb _ _ c.if-live_count-eq0.true))

pub returns : goal.returns
unfolding of_bits round
returns c =
    (rw c.next_bipolar-next.ensures, rw (ne_eqb _ _ c.if-live_count-eq0.false, c.next_bipolar-next.ensures))
