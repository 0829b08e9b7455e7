-- Positive floats, normal or scaled by 2 ^ 24 to be. Assumes nothing.
use mathlib.Core.Path.{◌≡◌, refl, sym, ◌∙◌, subst}
use Prim.Native.Nat.{ℕ, zero, suc, ◌*◌, ◌^◌, ◌≤◌, ◌<◌}
use native.Mathlib.Nat.{le_trans, le_of_eq, lt_of_lt_of_le, lt_of_le_of_lt, mul-le-mul_right, mul-le-mul_left, mul_assoc, zero-mul, mul-pos, not-le_of_lt}
use native.Mathlib.Omega.{arith}
use mathlib.Core.Bool.{Bool, true, false, not}
use lib.IntN.{pos}
use lib.Dec.{T, not_T, ltb→lt, lit≤}
use lib.Pow.{pow_pos}
use lib.Ieee.{Float, nan, inf, fin, binary32, mul, lt, fits}
use lib.Ieee.Fits.{and_i, up_pos}
use lib.Ieee.Exact.{HasValue}
use lib.Ieee.Order.{transfer}
use lib.Ieee.Positive.{num, den, den_pos, positive}
use Rattle.float.specs.inner.Range.{plain}
use Rattle.float.specs.Sqrt.{smallest}
use Rattle.float.specs.inner.Normal.{normal}
use Rattle.float.proofs.Within.{value-plain, value-cross, lt→cross}
use Rattle.float.proofs.Scaled.{scale-value}
use Rattle.float.proofs.Bounds.{count}

pub positive-plain : (x : Float) → T (positive x) → T (plain x)
positive-plain nan p = absurd p
positive-plain (inf s) p = absurd p
positive-plain (fin true m e) p = absurd p
positive-plain (fin false m e) p = tt

pub positive-num : (x : Float) → T (positive x) → 0 < num x
positive-num nan p = absurd p
positive-num (inf s) p = absurd p
positive-num (fin true m e) p = absurd p
positive-num (fin false m e) p = mul-pos (ltb→lt 0 m p) (up_pos e)

pub normal-from : (x : Float) → T (plain x) → lt x smallest ≡ false → T (normal x)
normal-from x p h = and_i (plain x) (not (lt x smallest)) p (subst (λ (b : Bool). T (not b)) (sym h) tt)

above-none : (u d : ℕ) → 0 < u * d → 1 * d ≤ u * d
above-none zero d h = absurd (no d h)
  where
    no : (d : ℕ) → 0 < zero * d → ⊥
    no d h = not-le_of_lt h (le_of_eq (zero-mul d))
above-none (suc u) d h = mul-le-mul_right d (one u)
  where
    one : (u : ℕ) → 1 ≤ suc u
    one u = omega arith

-- LAW: below 2 ^ -126 the product with 2 ^ 24 is exact
pub scaled_value : (x : Float) → T (fits binary32 x) → T (plain x) → T (lt x smallest) → HasValue (mul binary32 x (fin false 1 (pos 24))) false (num x * 2 ^ 24) (den x)
scaled_value x t p l = scale-value binary32 x 24 t p (pow_pos 24) (lt_of_le_of_lt (mul-le-mul_left (num x) (lit≤ tt)) (lt_of_lt_of_le (lt→cross x smallest p tt l) (mul-le-mul_right (den x) (lit≤ tt))))

-- and of a positive float it is normal
pub normal-scaled : (x : Float) → T (fits binary32 x) → T (positive x) → T (lt x smallest) → T (normal (mul binary32 x (fin false 1 (pos 24))))
normal-scaled x t g l =
    let p : T (plain x) = positive-plain x g in
    let y = mul binary32 x (fin false 1 (pos 24)) in
    let X = num x in
    let dx = den x in
    let v : HasValue y false (X * 2 ^ 24) dx = scaled_value x t p l in
    let q : T (plain y) = value-plain y (X * 2 ^ 24) dx v in
    let u = count x t p in
    let a : 1 * dx ≤ X * 2 ^ 24 * 2 ^ 126 =
    le_trans (above-none u.0 dx (lt_of_lt_of_le (mul-pos (positive-num x g) (pow_pos 149)) (le_of_eq u.1)))
    (le_trans (le_of_eq (sym u.1)) (le_trans (twice (X * 2 ^ 149)) (le_of_eq (sym (mul_assoc X (2 ^ 24) (2 ^ 126) ∙ sym (mul_assoc X (2 ^ 149) 2)))))) in
    let g : 1 * den y ≤ num y * 2 ^ 126 = transfer 1 (num y) (2 ^ 126) (den y) 1 (X * 2 ^ 24) (2 ^ 126) dx (pow_pos 126) (den_pos x) refl (value-cross y (X * 2 ^ 24) dx v) a in
    and_i (plain y) (not (lt y smallest)) q (not_T (lt y smallest) (λ (t : T (lt y smallest)). not-le_of_lt (lt→cross y smallest q tt t) g))
  where
    twice : (n : ℕ) → n ≤ n * 2
    twice n = omega arith
