-- `rate_ok` meets its contract.
use lib.Ieee.{of_bits, round}
use Rattle.filters.proofs.rate.rate_ok.Goals as goal

pub returns-then-rate : goal.returns-then-rate
unfolding of_bits round
returns-then-rate c = rw c.if-rate.true

pub returns-else-rate : goal.returns-else-rate
unfolding of_bits round
returns-else-rate c = rw c.if-rate.false
