-- Ranges of phases, steps and sides, as facts. Cited by private functions and proofs only.
use Rattle.std.specs.Prelude.{ℕ, ◌<◌, ◌≤◌, ◌≡◌, false, List, length, get_or, Float}
use Rattle.std.specs.Float.Ieee.{le}
use Rattle.std.specs.Float.{nan}
use Rattle.float.specs.inner.Range.{Within}
pub use Rattle.filters.specs.inner.Ranges.{Phase}
use Rattle.player.specs.declared.pitch.bracket.Sides.{Sides}

-- the first m of a list are phases
pub record AllPhases (ps : List Float) (m : ℕ) : Type 0 where
  pub at : (i : ℕ) → i < m → Phase (get_or ps i nan)

-- a step: 0 to 2^20
abbrev pub Step : Float → Type 0
Step x = Within 1048576 1 x

-- the first m of a list are steps
pub record AllSteps (incs : List Float) (m : ℕ) : Type 0 where
  pub at : (i : ℕ) → i < m → Step (get_or incs i nan)

-- both sides are entries
pub record SidesIn (n : ℕ) (s : Sides) : Type 0 where
  pub low : s.lo < n
  pub high : s.hi < n

-- from index i on no pitch is at or below f0
abbrev pub NoneNotAbove : List Float → Float → ℕ → Type 0
NoneNotAbove pitches f0 i = (k : ℕ) → i ≤ k → k < length pitches → le (get_or pitches k nan) f0 ≡ false
