-- A float that passes the test of `fault` is the root. Assumes nothing.
use mathlib.Core.Path.{◌≡◌, sym, ap, ◌∙◌, subst}
use Prim.Native.Nat.{ℕ, ◌+◌, ◌-◌, ◌*◌, ◌/◌, ◌%◌, ◌≤◌, ◌<◌}
use native.Mathlib.Nat.{mul-le-mul}
use native.Mathlib.Omega.{arith}
use mathlib.Core.Bool.{Bool, true, false, cond}
use lib.Dec.{T, lit<}
use lib.Ieee.{Float, nan, inf, fin, binary32, fits, lt, le, to_bits, of_bits}
use lib.Ieee.Bits.{of_bits-to_bits}
use Rattle.float.specs.Sqrt.{smallest, scaled, significand, root_bits, normal_root, sqrt}
use Rattle.float.specs.inner.Normal.{plus_zero}
use Rattle.float.proofs.RootLaws.{nearest-is, significand-small, quartered, is-significand}
use Rattle.float.proofs.Patterns.{plain-pattern}
use Rattle.float.proofs.Operands.{largest, normal-above, sqrt-normal}

-- ---- the pattern of a float above 0 has no sign
pub above-bits : (x : Float) → T (fits binary32 x) → lt plus_zero x ≡ true → to_bits binary32 x < 2147483648
unfolding lt to_bits
above-bits nan f h = absurd (subst T (sym h) tt)
above-bits (inf true) f h = absurd (subst T (sym h) tt)
above-bits (inf false) f h = lit< tt
above-bits (fin true m e) f h = absurd (subst T (sym h) tt)
above-bits (fin false m e) f h = wide (plain-pattern (fin false m e) f tt).0
  where
    wide : {n : ℕ} → n < 2139095040 → n < 2147483648
    wide h = omega arith

-- ---- what the code works out of the two patterns
-- what p has beyond the exponent of the root, where it has as much
abbrev pub beyond : ℕ → ℕ → ℕ
beyond b p = (p + 1627389952 - (b + 8388608) / 16777216 * 8388608) % 2147483648

pub square-small : (h : ℕ) → h < 2147483648 → h * h ≤ 2147483648 * 2147483648
square-small h u = mul-le-mul (less h u) (less h u)
  where
    less : (h : ℕ) → h < 2147483648 → h ≤ 2147483648
    less h u = omega arith

-- where it is small, p had as much
whole-pattern : (b p h : ℕ) → b < 2147483648 → p < 2147483648 → beyond b p ≡ h → h ≤ 16777216 → p ≡ ((b / 8388608 + 1) / 2 + 62) * 8388608 + h
whole-pattern b p h u v e l = go ((b + 8388608) / 16777216) (few b u) (halved b) e
  where
    few : (b : ℕ) → b < 2147483648 → (b + 8388608) / 16777216 ≤ 128
    few b u = omega arith

    halved : (b : ℕ) → (b + 8388608) / 16777216 ≡ (b / 8388608 + 1) / 2
    halved b = omega arith

    sum : (p h q : ℕ) → p < 2147483648 → h ≤ 16777216 → q ≤ 128 → (p + 1627389952 - q * 8388608) % 2147483648 ≡ h → p ≡ (q + 62) * 8388608 + h
    sum p h q v l k e = omega arith

    go : (q : ℕ) → q ≤ 128 → q ≡ (b / 8388608 + 1) / 2 → (p + 1627389952 - q * 8388608) % 2147483648 ≡ h → p ≡ ((b / 8388608 + 1) / 2 + 62) * 8388608 + h
    go q k m e = subst (λ (z : ℕ). p ≡ (z + 62) * 8388608 + h) m (sum p h q v l k e)

-- LAW: no fault in the square, and p is the pattern of the root
pub faultless : (b p n h : ℕ) → b < 2147483648 → p < 2147483648 → 4 * n ≡ scaled b → beyond b p ≡ h → h * h < n + h → n ≤ h * h + h → p ≡ root_bits b
faultless b p n h u v e d l k =
    let s : h ≡ significand b = is-significand n b h e (nearest-is n h (quartered n b e).0 l k) in
    whole-pattern b p (significand b) u v (d ∙ s) (significand-small b)

-- ---- LAW: a float with the pattern of the root is the root
root-from-bits : (x y : Float) → T (fits binary32 y) → to_bits binary32 y ≡ root_bits (to_bits binary32 x) → y ≡ normal_root x
root-from-bits x y f e = sym (of_bits-to_bits binary32 y f) ∙ ap (of_bits binary32) e

pub root-by-pattern : (x y : Float) (b p : ℕ) → T (fits binary32 y) → le smallest x ≡ true → le x largest ≡ true → b ≡ cond (lt plus_zero x) (to_bits binary32 x) 0 → p ≡ cond (lt plus_zero y) (to_bits binary32 y) 0 → p ≡ root_bits b → y ≡ sqrt x
root-by-pattern x y b p f h k eb ep e = go (lt plus_zero y) ep
  where
    bits : b ≡ to_bits binary32 x
    bits = eb ∙ ap (λ (t : Bool). cond t (to_bits binary32 x) 0) (normal-above x h k)

    more : (b s : ℕ) → ((b / 8388608 + 1) / 2 + 62) * 8388608 + s ≡ 0 → ⊥
    more b s e = omega arith

    go : (t : Bool) → p ≡ cond t (to_bits binary32 y) 0 → y ≡ sqrt x
    go true q = root-from-bits x y f (sym q ∙ e ∙ ap root_bits bits) ∙ sym (sqrt-normal x h k).1
    go false q = absurd (more b (significand b) (sym e ∙ q))
