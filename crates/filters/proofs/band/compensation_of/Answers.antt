-- `compensation_of` meets its contract.
use lib.Ieee.{of_bits, round}
use Rattle.filters.proofs.band.compensation_of.Goals as goal

pub returns : goal.returns
unfolding of_bits round
returns c =
    rw (c.noise_power_compensation.ensures, c.biquad_noise_power_gain-gain.ensures, c.band_center-center.ensures, c.requires)
