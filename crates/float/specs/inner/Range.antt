-- Ranges of floats. A finite float is the fraction `num x` / `den x` of whole numbers, with a sign; a bound is a fraction too.
use Rattle.std.specs.Prelude.{ℕ, ◌*◌, ◌≤◌, ◌<◌, T, Float}
use Rattle.std.specs.Float.Ieee.Scale.{finite}
use Rattle.std.specs.Float.Ieee.Positive.{num, den}
pub use Rattle.float.specs.inner.Normal.{plain}

-- finite, with no sign, and at most a / c
pub record Within (a c : ℕ) (x : Float) : Type 0 where
  pub plain-is : T (plain x)
  pub upper : num x * c ≤ a * den x

-- finite, with no sign, and below a / c
pub record StrictlyWithin (a c : ℕ) (x : Float) : Type 0 where
  pub plain-is : T (plain x)
  pub strict : num x * c < a * den x

-- finite, of either sign, and of magnitude at most a / c
pub record Mag (a c : ℕ) (x : Float) : Type 0 where
  pub finite-is : T (finite x)
  pub upper : num x * c ≤ a * den x

-- x is at most y, both finite with no sign
abbrev pub AtMost : Float → Float → Type 0
AtMost y x = Within (num y) (den y) x

-- finite, with no sign, and at least a / c
pub record AtLeast (a c : ℕ) (x : Float) : Type 0 where
  pub plain-is : T (plain x)
  pub lower : a * den x ≤ num x * c
