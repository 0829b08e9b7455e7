-- The bands that the quick ring serves. Cited by private functions only.
use Rattle.std.specs.Prelude.{zero, suc, Bool, true, false, ◌&&◌, Float}
use Rattle.std.specs.Float.{nan, inf, fin}
use Rattle.float.specs.F32.{◌⊗◌, quotient}
use Rattle.filters.specs.declared.biquad.BiquadCoeffs.{BiquadCoeffs}

-- 0 with no sign
abbrev pub is_plus_zero : Float → Bool
is_plus_zero nan = false
is_plus_zero (inf s) = false
is_plus_zero (fin true m e) = false
is_plus_zero (fin false zero e) = true
is_plus_zero (fin false (suc m) e) = false

-- at an input of 0 the first two coefficients add +0, as those of a voice's band-pass do
unfoldable pub quiet : BiquadCoeffs → Bool
quiet c = is_plus_zero (c.b0 ⊗ quotient 0 1) && is_plus_zero (c.b1 ⊗ quotient 0 1)
