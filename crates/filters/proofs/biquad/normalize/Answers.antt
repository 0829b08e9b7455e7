-- `normalize` meets its contract.
use Rattle.std.proofs.Common.{refl}
use lib.Ieee.{of_bits, round}
use Rattle.filters.specs.Biquad.{normalized}
use Rattle.filters.proofs.biquad.normalize.Goals as goal

pub returns : goal.returns
unfolding of_bits round normalized
returns c = refl
