-- Bit patterns of the floats with no sign. Up to 2139095039, the last one before the infinity's, a pattern n stands for `val n` units of 2 ^ -149, and a larger pattern for a larger value.
-- Assumes nothing.
use mathlib.Core.Path.{◌≡◌, refl, sym, ap, ◌∙◌, subst}
use mathlib.Core.Logic.{◌⊎◌, inl, inr}
use Prim.Native.Nat.{ℕ, zero, suc, ◌+◌, ◌-◌, ◌*◌, ◌/◌, ◌%◌, ◌^◌, ◌≤◌, ◌<◌}
use native.Mathlib.Nat.{le_trans, le_of_eq, mul-one, mul_assoc, mul_comm, one-mul, mul-le-mul_right, le_of_mul-le-mul_right, pow-suc}
use native.Mathlib.Omega.{arith}
use mathlib.Core.Bool.{Bool, true, false, not, cond}
use lib.Dec.{T, leb, eqb, leb→le, le→leb, eqb→eq, not_T}
use lib.Ieee.{Float, nan, inf, fin, binary32, odd, of_fields, of_bits, to_bits, nan_bits, is_nan, fits, lt}
use lib.Ieee.Bits.{of_bits-to_bits, nan_bits_is, is_true, is_false}
use lib.Ieee.Exact.{HasValue, odd_sign}
use lib.Ieee.Fits.{and_l, and_r}
use lib.Ieee.Positive.{num, den, den_pos}
use Rattle.float.specs.inner.Range.{plain}
use Rattle.float.specs.Sqrt.{smallest}
use Rattle.float.specs.inner.Normal.{normal}
use Rattle.float.proofs.Bounds.{le-or-lt}
use Rattle.float.proofs.Fraction.{not-lt}
use Rattle.float.proofs.Within.{value-plain, value-cross, le→cross}

-- n is below a, or not
either : (n a : ℕ) → (n < a) ⊎ (a ≤ n)
either n a = elim (le-or-lt a n) [ inl h ↦ inr h | inr h ↦ inl h ]

-- ---- the number of a pattern
-- by the exponent's field and the 23 digits below it; the field 0 has no leading digit
abbrev pub fields_val : ℕ → ℕ → ℕ
fields_val zero t = t
fields_val (suc x) t = (8388608 + t) * 2 ^ x

abbrev pub val : ℕ → ℕ
val n = fields_val (n / 8388608) (n % 8388608)

-- below 2 ^ 23, at the subnormal floats, the pattern is the number
pub val-small : (n : ℕ) → n < 8388608 → val n ≡ n
val-small n h = ap (λ (x : ℕ). fields_val x (n % 8388608)) (field n h) ∙ digits n h
  where
    field : (n : ℕ) → n < 8388608 → n / 8388608 ≡ 0
    field n h = omega arith

    digits : (n : ℕ) → n < 8388608 → n % 8388608 ≡ n
    digits n h = omega arith

-- from 2 ^ 23 on there is a leading digit
pub val-normal : (n : ℕ) → 8388608 ≤ n → val n ≡ (8388608 + n % 8388608) * 2 ^ (n / 8388608 - 1)
val-normal n h = ap (λ (x : ℕ). fields_val x (n % 8388608)) (field n h)
  where
    field : (n : ℕ) → 8388608 ≤ n → n / 8388608 ≡ suc (n / 8388608 - 1)
    field n h = omega arith

-- a significand h on top of a field k; where h is 2 ^ 24 it adds two to the field
pub val-packed : (k h : ℕ) → 8388608 ≤ h → h ≤ 16777216 → val (k * 8388608 + h) ≡ h * 2 ^ k
val-packed k h l u = go (either h 16777216)
  where
    short : (k h : ℕ) → 8388608 ≤ h → h < 16777216 → ((k * 8388608 + h) / 8388608 ≡ suc k) × (8388608 + (k * 8388608 + h) % 8388608 ≡ h)
    short k h l u = (omega arith, omega arith)

    long : (k h : ℕ) → h ≤ 16777216 → 16777216 ≤ h → ((k * 8388608 + h) / 8388608 ≡ suc (suc k)) × ((k * 8388608 + h) % 8388608 ≡ 0) × (16777216 ≡ h)
    long k h u l = (omega arith, omega arith, omega arith)

    twice : (k : ℕ) → (8388608 + 0) * 2 ^ suc k ≡ 16777216 * 2 ^ k
    twice k = ap (λ (z : ℕ). 8388608 * z) (pow-suc 2 k ∙ mul_comm (2 ^ k) 2) ∙ sym (mul_assoc 8388608 2 (2 ^ k))

    go : (h < 16777216) ⊎ (16777216 ≤ h) → val (k * 8388608 + h) ≡ h * 2 ^ k
    go (inl s) = let e = short k h l s in ap (λ (x : ℕ). fields_val x ((k * 8388608 + h) % 8388608)) e.0 ∙ ap (λ (m : ℕ). m * 2 ^ k) e.1
    go (inr s) = let e = long k h u s in ap (λ (x : ℕ). fields_val x ((k * 8388608 + h) % 8388608)) e.0 ∙ ap (λ (t : ℕ). fields_val (suc (suc k)) t) e.1 ∙ twice k ∙ ap (λ (m : ℕ). m * 2 ^ k) e.2

-- ---- from a pattern to its float
fields : (n : ℕ) → of_bits binary32 n ≡ of_fields binary32 (leb 2147483648 n) (n % 2147483648 / 8388608) (n % 8388608)
unfolding of_bits
fields n = refl

-- with the sign's bit clear
clear-fields : (n : ℕ) → n < 2147483648 → of_bits binary32 n ≡ of_fields binary32 false (n / 8388608) (n % 8388608)
clear-fields n h =
    fields n
    ∙ ap (λ (s : Bool). of_fields binary32 s (n % 2147483648 / 8388608) (n % 8388608)) (is_false (leb 2147483648 n) (not_T (leb 2147483648 n) (λ (t : T (leb 2147483648 n)). not-both n h (leb→le 2147483648 n t))))
    ∙ ap (λ (x : ℕ). of_fields binary32 false x (n % 8388608)) (field n h)
  where
    not-both : (n : ℕ) → n < 2147483648 → 2147483648 ≤ n → ⊥
    not-both n h k = omega arith

    field : (n : ℕ) → n < 2147483648 → n % 2147483648 / 8388608 ≡ n / 8388608
    field n h = omega arith

fields_value : (x t : ℕ) → x < 255 → HasValue (of_fields binary32 false x t) false (fields_val x t) (2 ^ 149)
unfolding of_fields
fields_value zero t h = subst (λ (n : ℕ). HasValue (odd 24 false t 0 149) false n (2 ^ 149)) (mul-one t) (odd_sign 24 false t 0 149)
fields_value (suc x) t h = go (eqb (suc x) 255) (λ (u : T (eqb (suc x) 255)). not-both x h (eqb→eq (suc x) 255 u))
  where
    not-both : (x : ℕ) → suc x < 255 → suc x ≡ 255 → ⊥
    not-both x h e = omega arith

    go : (b : Bool) → (T b → ⊥) → HasValue (cond b (cond (eqb t 0) (inf false) nan) (odd 24 false (8388608 + t) x 149)) false ((8388608 + t) * 2 ^ x) (2 ^ 149)
    go true f = absurd (f tt)
    go false f = odd_sign 24 false (8388608 + t) x 149

-- LAW: the value of a finite pattern with no sign
pub pattern-is : (n : ℕ) → n < 2139095040 → HasValue (of_bits binary32 n) false (val n) (2 ^ 149)
pattern-is n h = subst (λ (z : Float). HasValue z false (val n) (2 ^ 149)) (sym (clear-fields n (wide n h))) (fields_value (n / 8388608) (n % 8388608) (field n h))
  where
    wide : (n : ℕ) → n < 2139095040 → n < 2147483648
    wide n h = omega arith

    field : (n : ℕ) → n < 2139095040 → n / 8388608 < 255
    field n h = omega arith

-- ---- from a float to its pattern
-- a pattern with a sign, and one of an infinity or a NaN, is not that of a plain float
cond-not-plain : (b : Bool) (x y : Float) → plain x ≡ false → plain y ≡ false → plain (cond b x y) ≡ false
cond-not-plain true x y h k = h
cond-not-plain false x y h k = k

odd-not-plain : (d q k l : ℕ) → plain (odd d true q k l) ≡ false
unfolding odd
odd-not-plain d zero k l = refl
odd-not-plain d (suc q) k l = refl

signed-not-plain : (x t : ℕ) → plain (of_fields binary32 true x t) ≡ false
unfolding of_fields
signed-not-plain zero t = odd-not-plain 24 t 0 149
signed-not-plain (suc x) t = cond-not-plain (eqb (suc x) 255) (cond (eqb t 0) (inf true) nan) (odd 24 true (8388608 + t) x 149) (cond-not-plain (eqb t 0) (inf true) nan refl refl) (odd-not-plain 24 (8388608 + t) x 149)

top-not-plain : (t : ℕ) → plain (of_fields binary32 false 255 t) ≡ false
unfolding of_fields
top-not-plain t = cond-not-plain (eqb t 0) (inf false) nan refl refl

plain-under : (n : ℕ) → T (plain (of_bits binary32 n)) → n < 2139095040
plain-under n p = go (either n 2139095040) (either n 2147483648)
  where
    field : (n : ℕ) → 2139095040 ≤ n → n < 2147483648 → n / 8388608 ≡ 255
    field n h k = omega arith

    not_plain : plain (of_bits binary32 n) ≡ false → n < 2139095040
    not_plain h = absurd (subst T h p)

    go : (n < 2139095040) ⊎ (2139095040 ≤ n) → (n < 2147483648) ⊎ (2147483648 ≤ n) → n < 2139095040
    go (inl h) k = h
    go (inr h) (inl k) = not_plain (ap plain (clear-fields n k ∙ ap (λ (x : ℕ). of_fields binary32 false x (n % 8388608)) (field n h k)) ∙ top-not-plain (n % 8388608))
    go (inr h) (inr k) =
        not_plain
        (ap plain (fields n ∙ ap (λ (s : Bool). of_fields binary32 s (n % 2147483648 / 8388608) (n % 8388608)) (is_true (leb 2147483648 n) (le→leb 2147483648 n k)))
        ∙ signed-not-plain (n % 2147483648 / 8388608) (n % 8388608))

-- LAW: the pattern of a finite float with no sign lies below the infinity's, and has its value
pub plain-pattern : (x : Float) → T (fits binary32 x) → T (plain x) → (to_bits binary32 x < 2139095040) × HasValue x false (val (to_bits binary32 x)) (2 ^ 149)
plain-pattern x F p =
    let n = to_bits binary32 x in
    let e : of_bits binary32 n ≡ x = of_bits-to_bits binary32 x F in
    let u : n < 2139095040 = plain-under n (subst (λ (z : Float). T (plain z)) (sym e) p) in
    (u, subst (λ (z : Float). HasValue z false (val n) (2 ^ 149)) e (pattern-is n u))

-- ---- normal floats
pub normal-plain : (x : Float) → T (normal x) → T (plain x)
normal-plain x n = and_l (plain x) (not (lt x smallest)) n

-- LAW: the patterns of the positive normal floats are those from 2 ^ 23 up to the infinity's
pub normal-range : (x : Float) → T (fits binary32 x) → T (normal x) → (8388608 ≤ to_bits binary32 x) × (to_bits binary32 x < 2139095040)
normal-range x F n =
    let p : T (plain x) = normal-plain x n in
    let b = to_bits binary32 x in
    let v = plain-pattern x F p in
    let c : num x * 2 ^ 149 ≡ val b * den x = value-cross x (val b) (2 ^ 149) v.1 in
    let l : 1 * den x ≤ num x * 2 ^ 126 = le→cross smallest x tt p (not-lt x smallest p tt (is_false (lt x smallest) (and_r (plain x) (not (lt x smallest)) n))) in
    let m : 8388608 * den x ≤ val b * den x = le_trans (scale (den x) (num x) l) (le_of_eq c) in
    (go b (le_of_mul-le-mul_right m (den_pos x)) (either b 8388608), v.0)
  where
    scale : (d a : ℕ) → 1 * d ≤ a * 2 ^ 126 → 8388608 * d ≤ a * 2 ^ 149
    scale d a h = le_trans (le_of_eq (mul_comm 8388608 d ∙ ap (λ (z : ℕ). z * 8388608) (sym (one-mul d)))) (le_trans (mul-le-mul_right 8388608 h) (le_of_eq (mul_assoc a (2 ^ 126) 8388608)))

    go : (b : ℕ) → 8388608 ≤ val b → (b < 8388608) ⊎ (8388608 ≤ b) → 8388608 ≤ b
    go b h (inl u) = le_trans h (le_of_eq (val-small b u))
    go b h (inr l) = l

-- ---- no NaN: what `f32::to_bits` and `f32::from_bits` ask
pub plain-no-nan : (x : Float) → T (plain x) → T (not (is_nan x))
unfolding is_nan
plain-no-nan nan p = absurd p
plain-no-nan (inf s) p = tt
plain-no-nan (fin s m e) p = tt

pub pattern-no-nan : (n : ℕ) → n < 2139095040 → T (not (nan_bits binary32 n))
pattern-no-nan n h = subst (λ (b : Bool). T (not b)) (sym (nan_bits_is binary32 n)) (plain-no-nan (of_bits binary32 n) (value-plain (of_bits binary32 n) (val n) (2 ^ 149) (pattern-is n h)))
