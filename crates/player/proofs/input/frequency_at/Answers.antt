-- `frequency_at` meets its contract.
use lib.Ieee.{of_bits, round}
use Rattle.player.proofs.input.frequency_at.Goals as goal

pub returns : goal.returns
unfolding of_bits round
returns c =
    rw (c.clean.ensures, c.read_or.ensures)
