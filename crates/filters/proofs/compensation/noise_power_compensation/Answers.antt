-- `noise_power_compensation` meets its contract.
use lib.Ieee.{of_bits, round}
use Rattle.filters.proofs.compensation.noise_power_compensation.Goals as goal

pub returns : goal.returns
unfolding of_bits round
returns c = rw (c.sqrt.ensures, c.max.ensures)
