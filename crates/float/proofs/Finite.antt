-- Tests of a float that may be anything. Assumes nothing.
use mathlib.Core.Path.{◌≡◌, refl, sym, ◌∙◌, subst}
use Prim.Native.Nat.{ℕ, ◌%◌, ◌<◌}
use mathlib.Core.Bool.{Bool, true, false, not, cond}
use lib.IntN.{pos}
use lib.Dec.{T, ltb, lt→ltb}
use lib.Ieee.{Float, nan, inf, fin, binary32, lt, is_nan, of_bits}
use lib.Ieee.Bits.{nan_bits_is, nan_bits_above, is_true}

-- a test that is true
pub shown : (b : Bool) → b ≡ true → T b
shown b h = subst T (sym h) tt

-- what holds of both holds of the one that a test picks
pub by_cond : {A : Type 0} (P : A → Type 0) (t : Bool) (a b : A) → (t ≡ true → P a) → (t ≡ false → P b) → P (cond t a b)
by_cond P true a b f g = f refl
by_cond P false a b f g = g refl

-- ---- 0 < x: no NaN
pub above_no_nan : (x : Float) → lt (fin false 0 (pos 0)) x ≡ true → T (not (is_nan x))
unfolding lt is_nan
above_no_nan nan h = absurd (subst T (sym h) tt)
above_no_nan (inf s) h = tt
above_no_nan (fin s m e) h = tt

-- ---- a pattern that may be a NaN's
only_nan : (x : Float) → is_nan x ≡ true → x ≡ nan
unfolding is_nan
only_nan nan h = refl
only_nan (inf s) h = absurd (subst T (sym h) tt)
only_nan (fin s m e) h = absurd (subst T (sym h) tt)

pub nan_pattern : (n : ℕ) → 2139095040 < n % 2147483648 → of_bits binary32 n ≡ nan
nan_pattern n h = only_nan (of_bits binary32 n) (sym (nan_bits_is binary32 n) ∙ nan_bits_above binary32 n ∙ is_true (ltb 2139095040 (n % 2147483648)) (lt→ltb 2139095040 (n % 2147483648) h))
