-- `phase_ok` meets its contract.
use lib.Ieee.{of_bits, round}
use Rattle.voice.proofs.rules.phase_ok.Goals as goal

pub returns-then-p : goal.returns-then-p
unfolding of_bits round
returns-then-p c = rw c.if-p.true

pub returns-else-p : goal.returns-else-p
unfolding of_bits round
returns-else-p c = rw c.if-p.false
