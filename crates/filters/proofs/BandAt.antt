-- Laws of a band at a rate that a voice can have, for whoever makes voices. Assumes nothing.
use Rattle.std.proofs.Common.{◌≡◌, true, refl}
use lib.Ieee.{Float}
use Rattle.filters.specs.Biquad.{noise_band}
use Rattle.filters.specs.Rate.{rate_ok}
use Rattle.filters.specs.Band.{band_from, band_compensation}

pub band-coeffs : (raw rate : Float) → rate_ok rate ≡ true → (band_from raw rate).coeffs ≡ noise_band raw rate
unfolding band_from
band-coeffs raw rate h = rw h refl

pub band-compensation : (raw rate : Float) → rate_ok rate ≡ true → (band_from raw rate).compensation ≡ band_compensation raw rate
unfolding band_from
band-compensation raw rate h = rw h refl
