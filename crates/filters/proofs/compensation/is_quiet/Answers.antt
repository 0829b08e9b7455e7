-- `is_quiet` meets its contract.
use lib.Ieee.{of_bits, round}
use Rattle.filters.specs.inner.Quiet.{quiet}
use Rattle.filters.proofs.compensation.is_quiet.Goals as goal

pub returns-then-is_plus_zero : goal.returns-then-is_plus_zero
unfolding of_bits round quiet
returns-then-is_plus_zero c = rw (← c.if-is_plus_zero.ensures) c.is_plus_zero-then-is_plus_zero.ensures

pub returns-else-is_plus_zero : goal.returns-else-is_plus_zero
unfolding of_bits round quiet
returns-else-is_plus_zero c = rw (← c.if-is_plus_zero.ensures) c.if-is_plus_zero.false
