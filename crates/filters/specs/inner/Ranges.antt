-- Ranges of a rate and of a phase, as facts. Cited by private functions and proofs only.
use Rattle.std.specs.Prelude.{◌*◌, ◌≤◌, Float}
use Rattle.std.specs.Float.Ieee.Positive.{num, den}
use Rattle.float.specs.inner.Range.{Within, StrictlyWithin}

-- a sample rate that a voice can have: finite, from 8,000 to 192,000
pub record Rate (x : Float) : Type 0 where
  pub lower : 8000 * den x ≤ num x
  pub upper : Within 192000 1 x

-- a phase: turns, at least 0 and below 1
abbrev pub Phase : Float → Type 0
Phase p = StrictlyWithin 1 1 p
