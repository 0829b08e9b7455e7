-- `ring_count` meets its contract.
use lib.Ieee.{of_bits, round}
use Rattle.filters.proofs.compensation.ring_count.Goals as goal

pub returns : goal.returns
unfolding of_bits round
returns c = rw (c.clamp.ensures, c.saturating_f32_to_u64.ensures, c.max-tau.ensures, c.max-f.ensures)
