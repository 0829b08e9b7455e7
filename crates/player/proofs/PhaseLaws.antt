-- A phase stays a phase, the step of every partial is small enough, and a share is from 0 to 1.
use mathlib.Core.Path.{refl, sym, ap, ◌∙◌}
use Prim.Native.Nat.{ℕ, ◌*◌, ◌%◌, ◌≤◌, ◌<◌}
use native.Mathlib.Nat.{le_trans, le_of_eq, le_of_lt, lt_of_lt_of_le, lt_of_le_of_lt, lt_of_mul-lt-mul_right, mul-lt-mul_of_pos_right, mul_comm, mul-one, one-mul, mul-pos, mod-lt}
use mathlib.Core.Bool.{false}
use lib.IntN.{pos}
use lib.Dec.{T, lit≤, lit<}
use lib.Ieee.{Float, fin, binary32, round, of_int, le, lt, fits}
use lib.Ieee.Fits.{add-fits}
use lib.Ieee.Exact.{HasValue}
use lib.Ieee.Positive.{num, den, den_pos}
use Rattle.float.specs.inner.Range.{plain, Within}
use Rattle.float.specs.Lerp.{lerp}
use Rattle.float.proofs.Within.{value-plain, value-cross, add-within, mul-within, div-within, le→cross, lt→cross}
use Rattle.float.proofs.Fraction.{fraction-value, widen}
use Rattle.float.proofs.Bounds.{int-within, lerp-within, ratio-within}
use Rattle.float.specs.F32.{◌⊕◌, ◌⊗◌}
use Rattle.player.specs.Phase.{advance_of, inverse_of, partial_freq, step_of}
use Rattle.player.specs.inner.Ranges.{Phase, Step}
use Rattle.filters.specs.inner.Ranges.{Rate}
use Rattle.player.specs.Share.{share_of}

-- the sum of a phase and a step
pub sum-within : (ph inc : Float) → Phase ph → Step inc → Within 1048577 1 (ph ⊕ inc)
unfolding round
sum-within ph inc p i =
    add-within binary32 ph inc 1 1 1048576 1 1048577 1 (lit< tt) (lit< tt) (lit< tt) (refl, refl) (record { plain-is = p.plain-is; upper = le_of_lt p.strict }) i (lit≤ tt)

pub sum-small : (ph inc : Float) → Phase ph → Step inc → Within 16777216 1 (ph ⊕ inc)
sum-small ph inc p i = widen 1048577 16777216 (ph ⊕ inc) (lit≤ tt) (sum-within ph inc p i)

-- LAW: but for the sum, a step of the phase is exact: what is left is the sum's fraction
pub advance-exact : (ph inc : Float) → Phase ph → Step inc → HasValue (advance_of ph inc) false (num (ph ⊕ inc) % den (ph ⊕ inc)) (den (ph ⊕ inc))
advance-exact ph inc p i = fraction-value (ph ⊕ inc) (add-fits binary32 ph inc) (sum-small ph inc p i)

-- a value b / d with b below d is a phase
value-phase : (x : Float) (b d : ℕ) → HasValue x false b d → b < d → Phase x
value-phase x b d v h = record {
  plain-is = value-plain x b d v;
  strict = lt_of_mul-lt-mul_right d (lt_of_le_of_lt (le_of_eq (ap (λ (z : ℕ). z * d) (mul-one (num x)) ∙ value-cross x b d v))
      (lt_of_lt_of_le (mul-lt-mul_of_pos_right h (den_pos x)) (le_of_eq (mul_comm d (den x) ∙ ap (λ (z : ℕ). z * d) (sym (one-mul (den x)))))));
}

-- LAW: a phase steps to a phase
pub advance-phase : (ph inc : Float) → Phase ph → Step inc → Phase (advance_of ph inc)
advance-phase ph inc p i =
    let x = ph ⊕ inc in
    value-phase (advance_of ph inc) (num x % den x) (den x) (advance-exact ph inc p i) (mod-lt (num x) (den_pos x))

-- 1 / rate: 1 / 8000 is no f32, 1 / 4096 is
pub inverse-within : (rate : Float) → Rate rate → Within 1 4096 (inverse_of rate)
unfolding round
inverse-within rate R =
    let l : 8000 * den rate ≤ num rate * 1 = le_trans R.lower (le_of_eq (sym (mul-one (num rate)))) in
    div-within binary32 (fin false 1 (pos 0)) rate 1 1 8000 1 1 4096 (lit< tt) (lit< tt) (lit< tt) (refl, refl)
    (record { plain-is = tt; upper = lit≤ tt }) R.upper.plain-is (lt_of_lt_of_le (mul-pos (lit< tt) (den_pos rate)) R.lower) l (lit≤ tt)

-- LAW: the frequency of a partial
pub freq-within : (m : ℕ) (f0 stretch : Float) → m ≤ 32 → Within 20000 1 f0 → Within 8 1 stretch → Within 5120000 1 (partial_freq m f0 stretch)
unfolding round
freq-within m f0 stretch M F S =
    let A : Within 640000 1 (of_int binary32 (pos m) ⊗ f0) = mul-within binary32 _ _ 32 1 20000 1 640000 1 (lit< tt) (lit< tt) (lit< tt) (refl, refl) (int-within m 32 M (lit≤ tt)) F (lit≤ tt) in
    mul-within binary32 _ _ 640000 1 8 1 5120000 1 (lit< tt) (lit< tt) (lit< tt) (refl, refl) A S (lit≤ tt)

-- LAW: the step of a partial's phase is at most 1250
pub step-within : (m : ℕ) (f0 stretch rate : Float) → m ≤ 32 → Within 20000 1 f0 → Within 8 1 stretch → Rate rate → Within 1250 1 (step_of m f0 stretch (inverse_of rate))
unfolding round
step-within m f0 stretch rate M F S R =
    mul-within binary32 _ _ 5120000 1 1 4096 1250 1 (lit< tt) (lit< tt) (lit< tt) (refl, refl) (freq-within m f0 stretch M F S) (inverse-within rate R) (lit≤ tt)

pub step-step : (m : ℕ) (f0 stretch rate : Float) → m ≤ 32 → Within 20000 1 f0 → Within 8 1 stretch → Rate rate → Step (step_of m f0 stretch (inverse_of rate))
step-step m f0 stretch rate M F S R = widen 1250 1048576 (step_of m f0 stretch (inverse_of rate)) (lit≤ tt) (step-within m f0 stretch rate M F S R)

-- LAW: a stretch between two of 0 to 4, in either order, is from 0 to 8 after rounding
pub stretch-within : (lo hi t : Float) → T (fits binary32 lo) → Within 4 1 lo → Within 4 1 hi → Within 1 1 t → Within 8 1 (lerp lo hi t)
unfolding round
stretch-within lo hi t F L H S = lerp-within 4 8 lo hi t F (refl, refl) (refl, refl) (lit≤ tt) L H S

-- LAW: the share of a frequency between two pitches is from 0 to 1
pub share-within : (lo f0 hi : Float) → T (fits binary32 lo) → T (fits binary32 f0) → T (fits binary32 hi) → T (plain lo) → T (plain f0) → T (plain hi)
    → T (le lo f0) → T (lt f0 hi) → Within 1 1 (share_of lo f0 hi)
share-within lo f0 hi s t u p q r l h = ratio-within lo f0 hi s t u p q r (le→cross lo f0 p q l) (lt→cross f0 hi q r h)
