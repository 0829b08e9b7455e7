-- A float that is at least a positive bound is above 0. Assumes nothing.
use Prim.Native.Nat.{ℕ, ◌<◌}
use native.Mathlib.Nat.{lt_of_lt_of_le, mul-pos}
use lib.Ieee.{Float}
use lib.Ieee.Positive.{num, den_pos, first_pos}
use Rattle.float.specs.inner.Range.{AtLeast}

pub at-least-positive : (b d : ℕ) (y : Float) → 0 < b → AtLeast b d y → 0 < num y
at-least-positive b d y B w = first_pos (num y) d (lt_of_lt_of_le (mul-pos B (den_pos y)) w.lower)
