-- What tau is in a voice, and examples of the wave and of a band's compensation. Assumes nothing.
use Rattle.std.proofs.Common.{◌≡◌, ℕ, ◌+◌, ◌*◌, ◌<◌, Bool, true, false, cond, T, ltb, pos, negsuc, refl, ap, ◌∙◌, mul-pos, one-mul, arith, lit<, ltb-false, le-ltb, lt-ltb}
use lib.Ieee.{Float, nan, inf, fin, binary32, up, down, round, add, sub, mul, div, neg, lt, is_nan, of_int, of_bits, of_fields, to_bits, to_unsigned, fits}
use lib.Ieee.Fits.{down_pos}
use lib.Ieee.Positive.{num, den}
use Rattle.float.specs.F32.{◌⊗◌, ◌⊘◌, quotient}
use Rattle.float.specs.Order.{minimum, maximum}
use Rattle.float.specs.inner.Range.{plain}
use Rattle.float.specs.Root.{grown, root}
use Rattle.float.specs.Sqrt.{sqrt}
use Rattle.float.proofs.Within.{mul_is}
use Rattle.float.proofs.Unique.{round-self}
use Rattle.wave_table.specs.Wave.{quarter_of, wave_of}
use Rattle.filters.specs.inner.Ranges.{Rate}
use Rattle.filters.specs.Biquad.{center_of}
use Rattle.filters.specs.Compensation.{pi, tau_of, compensation_of}
use Rattle.filters.specs.Wave.{sine_of}

-- ---- tau
-- 1 × x is x
once : (x : Float) → T (fits binary32 x) → T (plain x) → quotient 1 1 ⊗ x ≡ x
unfolding round
once x t p =
    mul_is binary32 (quotient 1 1) x tt p
    ∙ ap (λ (z : ℕ). round binary32 false z (1 * den x)) (one-mul (num x))
    ∙ ap (λ (z : ℕ). round binary32 false (num x) z) (one-mul (den x))
    ∙ round-self binary32 x t p

-- what is at least 20 is at least 1
abbrev twenty : Float
twenty = fin false 5 (pos 2)

abbrev one : Float
one = fin false 1 (pos 0)

from-twenty : (x : Float) → maximum (maximum x twenty) one ≡ maximum x twenty
unfolding lt is_nan
from-twenty nan = refl
from-twenty (inf true) = refl
from-twenty (inf false) = refl
from-twenty (fin true m e) = rw (lt-ltb 0 (m * up e * 1 + 20 * down e) (more (m * up e * 1) (20 * down e) (mul-pos (lit< tt) (down_pos e))))
  where
    more : (a b : ℕ) → 0 < b → 0 < a + b
    more a b h = omega arith
from-twenty (fin false m e) = go (ltb (m * up e * 1) (20 * down e)) refl
  where
    go : (b : Bool) → ltb (m * up e * 1) (20 * down e) ≡ b → maximum (cond b twenty (fin false m e)) one ≡ cond b twenty (fin false m e)
    go true q = refl
    go false q = let h = ltb-false (m * up e * 1) (20 * down e) q in rw (le-ltb (m * up e * 1) (1 * down e) (omega arith))

over-one : (raw rate : Float) → maximum (center_of raw rate) (quotient 1 1) ≡ center_of raw rate
unfolding center_of round
over-one raw rate = from-twenty (minimum raw (rate ⊗ quotient 1 2 ⊗ quotient 9 10))

-- LAW: at a voice's centre and rate, and its Q of 1, tau is document 01's quotient: sample rate / (f32 π × centre), at least 1
pub tau-voice : (raw rate : Float) → T (fits binary32 rate) → Rate rate
    → tau_of (center_of raw rate) (quotient 1 1) rate ≡ maximum (rate ⊘ (pi ⊗ center_of raw rate)) (quotient 1 1)
tau-voice raw rate t R =
    let c = center_of raw rate in
    ap (λ (z : Float). maximum (z ⊘ (pi ⊗ maximum c (quotient 1 1))) (quotient 1 1)) (once rate t R.upper.plain-is)
    ∙ ap (λ (z : Float). maximum (rate ⊘ (pi ⊗ z)) (quotient 1 1)) (over-one raw rate)

-- ---- S at a quarter, at three quarters, and at 2^-10, where it is T(1) × 2^-23
pub record Sines : Type 0 where
  pub at-quarter : sine_of (quotient 1 4) ≡ quotient 1 1
  pub at-three-quarters : sine_of (quotient 3 4) ≡ neg (quotient 1 1)
  pub at-first-cell : sine_of (quotient 1 1024) ≡ quotient 51471 8388608

pub sines : Sines
unfolding sine_of wave_of quarter_of round add sub mul neg of_int to_unsigned
sines = record { at-quarter = refl; at-three-quarters = refl; at-first-cell = refl }

-- ---- the power is raised to at least 10^-12: none at all, and half of 10^-12, are made up for by 10^6
pub record Floors : Type 0 where
  pub at_none : compensation_of (quotient 0 1) ≡ quotient 1000000 1
  pub at-half-floor : compensation_of (quotient 1 2000000000000) ≡ quotient 1000000 1

-- the f32 nearest 10^-12, and its root
abbrev least : Float
least = fin false 2305843 (negsuc 60)

abbrev its-root : Float
its-root = fin false 8796093 (negsuc 42)

least-root : sqrt least ≡ its-root
unfolding sqrt root grown round mul lt of_bits of_fields to_bits
least-root = refl

abbrev million : Float
million = fin false 15625 (pos 6)

one-is : quotient 1 1 ≡ one
unfolding round
one-is = refl

million-is : million ≡ quotient 1000000 1
unfolding round
million-is = refl

made_up : one ⊘ its-root ≡ million
unfolding round div
made_up = refl

-- a power that the floor raises
raised : (power : Float) → maximum power (quotient 1 1000000000000) ≡ least → compensation_of power ≡ quotient 1000000 1
raised power e =
    ap (λ (z : Float). quotient 1 1 ⊘ sqrt z) e ∙ ap (λ (z : Float). quotient 1 1 ⊘ z) least-root ∙ ap (λ (z : Float). z ⊘ its-root) one-is ∙ made_up ∙ million-is

floor-none : maximum (quotient 0 1) (quotient 1 1000000000000) ≡ least
unfolding round lt is_nan
floor-none = refl

floor-half : maximum (quotient 1 2000000000000) (quotient 1 1000000000000) ≡ least
unfolding round lt is_nan
floor-half = refl

pub floors : Floors
floors = record { at_none = raised (quotient 0 1) floor-none; at-half-floor = raised (quotient 1 2000000000000) floor-half }
