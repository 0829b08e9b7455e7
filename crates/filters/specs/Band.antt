-- A band of a voice, worked out from its centre and the sample rate as the Rust's `init` does.
use Rattle.std.specs.Prelude.{cond, Float}
use Rattle.float.specs.F32.{quotient}
use Rattle.filters.specs.Biquad.{noise_band, center_of}
use Rattle.filters.specs.Compensation.{noise_power_gain, compensation_of}
use Rattle.filters.specs.Rate.{rate_ok}
use Rattle.filters.specs.declared.biquad.BiquadCoeffs.{BiquadCoeffs}
use Rattle.filters.specs.declared.band.Band.{Band}

abbrev pub zero_coeffs : BiquadCoeffs
zero_coeffs = record { b0 = quotient 0 1; b1 = quotient 0 1; b2 = quotient 0 1; a1 = quotient 0 1; a2 = quotient 0 1 }

-- what makes up for the power that white noise has after the band
abbrev pub band_compensation : Float → Float → Float
band_compensation raw rate = compensation_of (noise_power_gain (center_of raw rate) (quotient 1 1) rate (noise_band raw rate)).power

-- all zero at a rate that no voice can have
unfoldable pub band_from : Float → Float → Band
band_from raw rate =
    cond (rate_ok rate)
    (record { coeffs = noise_band raw rate; compensation = band_compensation raw rate })
    (record { coeffs = zero_coeffs; compensation = quotient 0 1 })
