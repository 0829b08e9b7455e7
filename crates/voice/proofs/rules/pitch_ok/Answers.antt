-- `pitch_ok` meets its contract.
use lib.Ieee.{of_bits, round}
use Rattle.voice.proofs.rules.pitch_ok.Goals as goal

pub returns-then-f : goal.returns-then-f
unfolding of_bits round
returns-then-f c = rw c.if-f.true

pub returns-else-f : goal.returns-else-f
unfolding of_bits round
returns-else-f c = rw c.if-f.false
