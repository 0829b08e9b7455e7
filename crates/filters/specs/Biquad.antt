-- Second-order filters: the band-pass of the RBJ cookbook with 0 dB peak, and one sample of a filter in transposed direct form II.
use Rattle.std.specs.Prelude.{Float}
use Rattle.std.specs.Float.Ieee.{neg}
use Rattle.float.specs.Order.{minimum, maximum}
use Rattle.float.specs.F32.{◌⊕◌, ◌⊖◌, ◌⊗◌, ◌⊘◌, quotient}
use Rattle.filters.specs.Wave.{sine_of}
use Rattle.filters.specs.declared.biquad.BiquadCoeffs.{BiquadCoeffs}
use Rattle.filters.specs.declared.biquad.BiquadParams.{BiquadParams}
use Rattle.filters.specs.declared.biquad.BiquadState.{BiquadState}
use Rattle.filters.specs.declared.biquad.Tick.{Tick}

-- the angle as a part of a turn, for the sine
abbrev pub turn : Float → Float → Float
turn freq rate = freq ⊘ rate

-- and a quarter of a turn on, for the cosine
abbrev pub turn_quarter : Float → Float → Float
turn_quarter freq rate = turn freq rate ⊕ quotient 1 4

unfoldable pub params_of : Float → Float → Float → BiquadParams
params_of freq q rate = record {
  cos_w0 = sine_of (turn_quarter freq rate);
  alpha = sine_of (turn freq rate) ⊘ (quotient 2 1 ⊗ q);
}

-- all coefficients are multiplied by 1 / a0
unfoldable pub normalized : Float → Float → Float → Float → Float → Float → BiquadCoeffs
normalized b0 b1 b2 a0 a1 a2 =
    let inv = quotient 1 1 ⊘ a0 in
    record { b0 = b0 ⊗ inv; b1 = b1 ⊗ inv; b2 = b2 ⊗ inv; a1 = a1 ⊗ inv; a2 = a2 ⊗ inv }

-- the band-pass: alpha, 0, -alpha over 1 + alpha, -2 cos, 1 - alpha
unfoldable pub band_pass : Float → Float → Float → BiquadCoeffs
band_pass freq q rate =
    let p = params_of freq q rate in
    let alpha = p.alpha in
    normalized alpha (quotient 0 1) (neg alpha) (quotient 1 1 ⊕ alpha) (neg (quotient 2 1) ⊗ p.cos_w0) (quotient 1 1 ⊖ alpha)

-- a band's centre: at most 0.9 * (rate * 0.5), then at least 20
unfoldable pub center_of : Float → Float → Float
center_of raw rate = maximum (minimum raw (rate ⊗ quotient 1 2 ⊗ quotient 9 10)) (quotient 20 1)

-- a noise band: Q is 1
abbrev pub noise_band : Float → Float → BiquadCoeffs
noise_band raw rate = band_pass (center_of raw rate) (quotient 1 1) rate

-- a filter that has heard nothing
abbrev pub cleared : BiquadState
cleared = record { z1 = quotient 0 1; z2 = quotient 0 1 }

-- One sample, left to right: y = b0 * x + z1, then z1 = b1 * x - a1 * y + z2, then z2 = b2 * x - a2 * y.
unfoldable pub tick_of : BiquadState → Float → BiquadCoeffs → Tick
tick_of s x c =
    let y = c.b0 ⊗ x ⊕ s.z1 in
    record {
      state = record {
        z1 = c.b1 ⊗ x ⊖ c.a1 ⊗ y ⊕ s.z2;
        z2 = c.b2 ⊗ x ⊖ c.a2 ⊗ y;
      };
      y = y;
    }
