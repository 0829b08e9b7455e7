-- `band_center` meets its contract.
use lib.Ieee.{of_bits, round}
use Rattle.filters.specs.Biquad.{center_of}
use Rattle.filters.proofs.biquad.band_center.Goals as goal

pub returns : goal.returns
unfolding of_bits round center_of
returns c = rw (c.max.ensures, c.min.ensures)
