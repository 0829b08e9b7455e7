-- `stretch_ok` meets its contract.
use lib.Ieee.{of_bits, round}
use Rattle.voice.proofs.rules.stretch_ok.Goals as goal

pub returns-then-s : goal.returns-then-s
unfolding of_bits round
returns-then-s c = rw c.if-s.true

pub returns-else-s : goal.returns-else-s
unfolding of_bits round
returns-else-s c = rw c.if-s.false
