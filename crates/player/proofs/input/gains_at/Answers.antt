-- `gains_at` meets its contract.
use lib.Ieee.{of_bits, round}
use Rattle.player.proofs.input.gains_at.Goals as goal

pub returns : goal.returns
unfolding of_bits round
returns c =
    rw (c.read_or-a.ensures, c.read_or-b.ensures, c.read_or-c.ensures, c.read_or-d.ensures)
