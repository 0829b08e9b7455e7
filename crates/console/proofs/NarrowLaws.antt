-- Laws on the patterns of `narrow`. Assumes nothing.
use Rattle.std.proofs.Common.{◌≡◌, ℕ, ◌%◌, ◌^◌, ◌<◌, min, Bool, true, false, not, T, ltb, leb, pos, sym, subst, arith, leb-false}
use lib.Ieee.{Float, nan, inf, fin, binary64, lt, neg, div, of_int, is_nan}
use Rattle.float.proofs.Finite.{by_cond}
use Rattle.console.specs.Narrow.{narrow_pattern, narrowed, quotient_of, signed}

-- a pattern of `narrow` is below the infinity's
pub narrow-lt : (b : ℕ) → narrow_pattern b < 2139095040
unfolding narrow_pattern
narrow-lt b =
    by_cond (λ (n : ℕ). n < 2139095040) (ltb b 0x3810000000000000) _ _ (λ h. omega arith) (λ h₁.
    by_cond (λ (n : ℕ). n < 2139095040) (leb 0x47e0000000000000 b) _ _ (λ h. omega arith) (λ h₂.
    let l : b < 0x47e0000000000000 = leb-false _ _ h₂ in
    by_cond (λ (n : ℕ). n < 2139095040) (ltb (b % 0x20000000) 0x10000000) _ _ (λ h. omega arith) (λ h₃.
    by_cond (λ (n : ℕ). n < 2139095040) (ltb 0x10000000 (b % 0x20000000)) _ _ (λ h. omega arith) (λ h₄. omega arith))))

-- what is above a number is no NaN
pub above_no_nan : (z x : Float) → lt z x ≡ true → T (not (is_nan x))
unfolding lt is_nan
above_no_nan z (inf t) h = tt
above_no_nan z (fin t n d) h = tt
above_no_nan nan nan h = subst T (sym h) tt
above_no_nan (inf s) nan h = subst T (sym h) tt
above_no_nan (fin s m e) nan h = subst T (sym h) tt

pub quotient_is : (digits places t w : ℕ) (n p x : Float) → n ≡ of_int binary64 (pos digits) → t ≡ min places 15 → w ≡ 10 ^ t → p ≡ of_int binary64 (pos w) →
    x ≡ narrowed (div binary64 n p) → x ≡ narrowed (quotient_of digits places)
quotient_is digits places t w n p x a b c d e = cc

pub signed-true : (s : Bool) (x y : Float) → s ≡ true → x ≡ y → neg x ≡ signed s y
signed-true s x y t e = rw (t, e)

pub signed-false : (s : Bool) (x y : Float) → s ≡ false → x ≡ y → x ≡ signed s y
signed-false s x y t e = rw (t, e)
