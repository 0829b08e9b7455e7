-- `reseeded` meets its contract.
use lib.Ieee.{of_bits, round}
use Rattle.voice.proofs.restart.reseeded.Goals as goal

pub returns : goal.returns
unfolding of_bits round
returns c = rw c.new.ensures
