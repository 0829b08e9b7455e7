-- Bounds of a square root: z is a float, and what is at most z * z has a root of at most z; the same from below; and a root is 0 only where its operand is. Assumes nothing.
use mathlib.Core.Path.{◌≡◌, refl, sym, ap, ◌∙◌, subst}
use mathlib.Core.Logic.{◌⊎◌, inl, inr}
use Prim.Native.Nat.{ℕ, zero, suc, ◌+◌, ◌*◌, ◌^◌, ◌≤◌, ◌<◌}
use native.Mathlib.Nat.{le_trans, le_of_eq, le_of_lt, lt_of_lt_of_le, lt_irrefl, mul-le-mul, mul-le-mul_left, mul-le-mul_right, mul_assoc, mul-pos, mul-mul-mul_comm, le_of_mul-le-mul_right, zero-lt-suc, zero-mul, eq-zero-or-pos}
use native.Mathlib.Omega.{arith}
use mathlib.Core.Bool.{Bool, true, false}
use lib.IntN.{negsuc}
use lib.Dec.{T, lt→ltb}
use lib.Pow.{pow_pos}
use lib.Ieee.{Float, nan, inf, fin, binary32, up, down, eq, fits}
use lib.Ieee.Exact.{HasValue}
use lib.Ieee.Order.{transfer}
use lib.Ieee.Positive.{num, den, den_pos, positive, positive_of_value, value_pos}
use Rattle.float.specs.inner.Range.{plain, Within, AtLeast}
use Rattle.float.specs.Sqrt.{sqrt}
use Rattle.float.specs.inner.Normal.{plus_zero}
use Rattle.float.specs.Nearest.{NearestRoot}
use Rattle.float.proofs.Within.{value-plain, value-cross, value-within}
use Rattle.float.proofs.Bounds.{le-or-lt}
use Rattle.float.proofs.Patterns.{plain-pattern}
use Rattle.float.proofs.Operands.{positive-apart, other-alike}
use Rattle.float.proofs.Nearest.{sqrt-nearest}

-- ---- in units of 2 ^ -149: the square of z, and x in squares of units
square-value : (z : Float) (Z : ℕ) → HasValue z false Z (2 ^ 149) → Z * Z * (den z * den z) ≡ num z * num z * (2 ^ 149 * 2 ^ 149)
square-value z Z v =
    mul-mul-mul_comm Z Z (den z) (den z)
    ∙ ap (λ (n : ℕ). n * n) (sym (value-cross z Z (2 ^ 149) v))
    ∙ mul-mul-mul_comm (num z) (2 ^ 149) (num z) (2 ^ 149)

over-units : (x z : Float) (X Z : ℕ) → HasValue x false X (2 ^ 149) → HasValue z false Z (2 ^ 149) → num x * (den z * den z) ≤ num z * num z * den x → X * 2 ^ 149 ≤ Z * Z
over-units x z X Z v w h =
    le_of_mul-le-mul_right
    (le_trans (le_of_eq (mul_assoc X (2 ^ 149) (2 ^ 149)))
    (transfer X (Z * Z) (2 ^ 149) (2 ^ 149 * 2 ^ 149) (num x) (num z * num z) (den x) (den z * den z) (den_pos x) (mul-pos (den_pos z) (den_pos z)) (sym (value-cross x X (2 ^ 149) v)) (square-value z Z w) h))
    (pow_pos 149)

under-units : (x z : Float) (X Z : ℕ) → HasValue x false X (2 ^ 149) → HasValue z false Z (2 ^ 149) → num z * num z * den x ≤ num x * (den z * den z) → Z * Z ≤ X * 2 ^ 149
under-units x z X Z v w h =
    le_of_mul-le-mul_right
    (le_trans (transfer (Z * Z) X (2 ^ 149 * 2 ^ 149) (2 ^ 149) (num z * num z) (num x) (den z * den z) (den x) (mul-pos (den_pos z) (den_pos z)) (den_pos x) (square-value z Z w) (sym (value-cross x X (2 ^ 149) v)) h)
    (le_of_eq (sym (mul_assoc X (2 ^ 149) (2 ^ 149)))))
    (pow_pos 149)

twice : (Z R : ℕ) → Z ≤ R → 4 * (Z * Z) ≤ (Z + R) * (Z + R)
twice Z R h = le_trans (le_of_eq (sym (mul-mul-mul_comm 2 Z 2 Z))) (mul-le-mul (both Z R h) (both Z R h))
  where
    both : (Z R : ℕ) → Z ≤ R → 2 * Z ≤ Z + R
    both Z R h = omega arith

half : (Z R : ℕ) → R ≤ Z → (Z + R) * (Z + R) ≤ 4 * (Z * Z)
half Z R h = le_trans (mul-le-mul (both Z R h) (both Z R h)) (le_of_eq (mul-mul-mul_comm 2 Z 2 Z))
  where
    both : (Z R : ℕ) → R ≤ Z → Z + R ≤ 2 * Z
    both Z R h = omega arith

-- ---- a positive x
positive-within : (x z : Float) → T (fits binary32 x) → T (positive x) → T (fits binary32 z) → T (plain z) → Within (num z * num z) (den z * den z) x → Within (num z) (den z) (sqrt x)
positive-within x z t p f q w =
    let N = sqrt-nearest x t p in
    let c = plain-pattern z f q in
    let v = c.1 in
    go N _ v (le-or-lt N.R _)
  where
    go : (N : NearestRoot x (sqrt x)) (Z : ℕ) → HasValue z false Z (2 ^ 149) → (N.R ≤ Z) ⊎ (Z < N.R) → Within (num z) (den z) (sqrt x)
    go N Z v (inl h) = value-within (sqrt x) N.R (2 ^ 149) (num z) (den z) (pow_pos 149) (den_pos z) N.result (le_trans (mul-le-mul_right (den z) h) (le_of_eq (sym (value-cross z Z (2 ^ 149) v))))
    go N Z v (inr h) =
        absurd (lt_irrefl _ (lt_of_lt_of_le (N.lower z Z f v h)
        (le_trans (mul-le-mul_left 4 (over-units x z N.X Z N.value v w.upper)) (twice Z N.R (le_of_lt h)))))

-- LAW: x at most z * z has a root of at most z
pub sqrt-within : (x z : Float) → T (fits binary32 x) → T (fits binary32 z) → T (plain z) → Within (num z * num z) (den z * den z) x → Within (num z) (den z) (sqrt x)
unfolding sqrt
sqrt-within nan z t f q w = absurd w.plain-is
sqrt-within (inf s) z t f q w = absurd w.plain-is
sqrt-within (fin true m e) z t f q w = absurd w.plain-is
sqrt-within (fin false zero e) z t f q w = record { plain-is = tt; upper = le_trans (le_of_eq (ap (λ (n : ℕ). n * den z) (zero-mul (up e)) ∙ zero-mul (den z))) (plus_zero (num z * down e)) }
  where
    plus_zero : (n : ℕ) → 0 ≤ n
    plus_zero n = omega arith
sqrt-within (fin false (suc m) e) z t f q w = positive-within (fin false (suc m) e) z t (lt→ltb 0 (suc m) (zero-lt-suc m)) f q w

-- LAW: x at least z * z, and above 0, has a root of at least z
pub sqrt-at-least : (x z : Float) → T (fits binary32 x) → T (positive x) → T (fits binary32 z) → T (plain z) → AtLeast (num z * num z) (den z * den z) x → AtLeast (num z) (den z) (sqrt x)
sqrt-at-least x z t p f q w =
    let N = sqrt-nearest x t p in
    let c = plain-pattern z f q in
    let v = c.1 in
    go N _ v (le-or-lt _ N.R)
  where
    go : (N : NearestRoot x (sqrt x)) (Z : ℕ) → HasValue z false Z (2 ^ 149) → (Z ≤ N.R) ⊎ (N.R < Z) → AtLeast (num z) (den z) (sqrt x)
    go N Z v (inl h) = record {
      plain-is = value-plain (sqrt x) N.R (2 ^ 149) N.result;
      lower = transfer (num z) (num (sqrt x)) (den z) (den (sqrt x)) Z N.R (2 ^ 149) (2 ^ 149) (pow_pos 149) (pow_pos 149) (value-cross z Z (2 ^ 149) v) (value-cross (sqrt x) N.R (2 ^ 149) N.result) (mul-le-mul_right (2 ^ 149) h);
    }
    go N Z v (inr h) =
        absurd (lt_irrefl _ (lt_of_lt_of_le (N.higher z Z f v h)
        (le_trans (half Z N.R (le_of_lt h)) (mul-le-mul_left 4 (under-units x z N.X Z N.value v w.lower)))))

-- the root of a float with no sign has none
pub sqrt-plain : (x : Float) → T (fits binary32 x) → T (plain x) → T (plain (sqrt x))
unfolding sqrt
sqrt-plain nan t p = absurd p
sqrt-plain (inf s) t p = absurd p
sqrt-plain (fin true m e) t p = absurd p
sqrt-plain (fin false zero e) t p = tt
sqrt-plain (fin false (suc m) e) t p =
    let N = sqrt-nearest (fin false (suc m) e) t (lt→ltb 0 (suc m) (zero-lt-suc m)) in
    value-plain (sqrt (fin false (suc m) e)) N.R (2 ^ 149) N.result

-- the root of a positive float is positive: were it 0, the smallest positive float would be nearer
positive-root : (x : Float) → T (fits binary32 x) → T (positive x) → T (positive (sqrt x))
unfolding fits
positive-root x t p =
    let N = sqrt-nearest x t p in
    let unit : HasValue (fin false 1 (negsuc 148)) false 1 (2 ^ 149) = (refl, refl) in
    positive_of_value (sqrt x) N.R (2 ^ 149) N.result (some N (N.higher (fin false 1 (negsuc 148)) 1 tt unit) (eq-zero-or-pos N.R))
  where
    units : (N : NearestRoot x (sqrt x)) → 0 < N.X
    units N = value_pos x N.X (2 ^ 149) p (pow_pos 149) N.value

    none-less : (a : ℕ) → 0 < a → 4 * a < 1 → ⊥
    none-less a h k = omega arith

    some : (N : NearestRoot x (sqrt x)) → (N.R < 1 → 4 * (N.X * 2 ^ 149) < (1 + N.R) * (1 + N.R)) → (N.R ≡ 0) ⊎ (0 < N.R) → 0 < N.R
    some N h (inl e) = absurd (none-less (N.X * 2 ^ 149) (mul-pos (units N) (pow_pos 149)) (subst (λ (r : ℕ). 4 * (N.X * 2 ^ 149) < (1 + r) * (1 + r)) e (h (subst (λ (r : ℕ). r < 1) (sym e) (zero-lt-suc 0)))))
    some N h (inr l) = l

-- LAW: a root is 0 exactly where its operand is
pub sqrt-zero-alike : (x : Float) → T (fits binary32 x) → eq (sqrt x) plus_zero ≡ eq x plus_zero
sqrt-zero-alike x t = go (positive x) refl
  where
    go : (b : Bool) → positive x ≡ b → eq (sqrt x) plus_zero ≡ eq x plus_zero
    go true e = let p = subst T (sym e) tt in positive-apart (sqrt x) (positive-root x t p) ∙ sym (positive-apart x p)
    go false e = other-alike x (λ (p : T (positive x)). subst T e p)
