-- A rate that is one, and the band of none. (The band of a rate is left to the search, which goes by the definition.)
use Rattle.std.proofs.Common.{T, subst}
use lib.Ieee.{of_bits, round}
use lib.Ieee.Fits.{and_l, and_r}
use Rattle.filters.specs.Band.{band_from}
use Rattle.filters.proofs.Tests.{rate-is}
use Rattle.filters.proofs.band.init_band.Goals as goal

pub band_of-requires : goal.band_of-requires
unfolding of_bits round
band_of-requires c =
    let t = subst T c.if-rate_ok.ensures tt in
    rate-is _ (and_l _ _ t) (and_r _ _ t)

pub returns : goal.returns
unfolding band_from of_bits round
returns c = rw (← c.if-rate_ok.ensures, c.zero_coeffs.ensures)
