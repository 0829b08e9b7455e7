-- How loud white noise comes out of a band: an impulse goes in, the band is rung n times, and the squares of what comes out are summed.
-- The compensation makes up for it.
use Rattle.std.specs.Prelude.{ℕ, zero, suc, min, max, Float}
use Rattle.std.specs.Float.Ieee.{to_unsigned}
use Rattle.float.specs.Order.{maximum}
use Rattle.float.specs.Sqrt.{sqrt}
use Rattle.float.specs.F32.{◌⊕◌, ◌⊗◌, ◌⊘◌, quotient}
use Rattle.filters.specs.Biquad.{cleared, tick_of}
use Rattle.filters.specs.declared.biquad.BiquadCoeffs.{BiquadCoeffs}
use Rattle.filters.specs.declared.biquad.BiquadState.{BiquadState}
use Rattle.filters.specs.declared.compensation.NoisePower.{NoisePower}

-- the f32 nearest to π
abbrev pub pi : Float
pi = quotient 3141592653589793 1000000000000000

-- tau: sample rate / (f32 π × centre), at least 1. The Rust's Q and its centre of at least 1 stand in it too: a voice's Q is 1 and its
-- centres are at least 20, so that there they change nothing.
abbrev pub tau_of : Float → Float → Float → Float
tau_of freq q rate = maximum (q ⊗ rate ⊘ (pi ⊗ maximum freq (quotient 1 1))) (quotient 1 1)

-- the whole part of x, 0 for a NaN, held to 64 to 2,000,000
abbrev pub held : Float → ℕ
held x = max 64 (min (to_unsigned 64 x) 2000000)

-- n: how many times the band is rung, the whole part of 25 × tau held to its limits
abbrev pub ring_count : Float → Float → Float → ℕ
ring_count freq q rate = held (quotient 25 1 ⊗ tau_of freq q rate)

-- the input: 1, then 0
abbrev pub impulse : ℕ → Float
impulse zero = quotient 1 1
impulse (suc i) = quotient 0 1

-- the memory after i samples of the impulse
unfoldable pub rung_state : BiquadCoeffs → ℕ → BiquadState
rung_state c zero = cleared
rung_state c (suc i) = (tick_of (rung_state c i) (impulse i) c).state

-- output i
abbrev pub rung_output : BiquadCoeffs → ℕ → Float
rung_output c i = (tick_of (rung_state c i) (impulse i) c).y

-- the sum of the first i outputs' squares, from the first on
unfoldable pub rung_power : BiquadCoeffs → ℕ → Float
rung_power c zero = quotient 0 1
rung_power c (suc i) = rung_power c i ⊕ rung_output c i ⊗ rung_output c i

-- a band rung n times: the power, and the n rung
abbrev pub rung : BiquadCoeffs → ℕ → NoisePower
rung c n = record { power = rung_power c n; n = n }

abbrev pub noise_power_gain : Float → Float → Float → BiquadCoeffs → NoisePower
noise_power_gain freq q rate c = rung c (ring_count freq q rate)

-- 1 / the square root of the power, which is raised to at least 10^-12
abbrev pub compensation_of : Float → Float
compensation_of power = quotient 1 1 ⊘ sqrt (maximum power (quotient 1 1000000000000))
