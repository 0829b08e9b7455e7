-- `first_state` meets its contract.
use lib.Ieee.{of_bits, round}
use Rattle.voice.proofs.restart.first_state.Goals as goal

pub returns : goal.returns
unfolding of_bits round
returns c = rw c.default.ensures
