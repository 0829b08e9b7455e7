-- Floats of either sign, by their size: finite, and at most a / c either way. What the operations do to such a bound. Assumes nothing.
use mathlib.Core.Path.{sym, subst}
use Prim.Native.Nat.{ℕ, suc, ◌+◌, ◌-◌, ◌*◌, ◌≤◌, ◌<◌}
use native.Mathlib.Nat.{le_trans, le_of_eq, mul-le-mul_right, mul-le-mul, mul-pos, mul-mul-mul_comm}
use native.Mathlib.Omega.{arith}
use mathlib.Core.Bool.{Bool, true, false, ◌&&◌, cond, beq}
use lib.IntN.{ℤ, pos, negsuc, nat_abs}
use lib.Dec.{T, ltb, lit<}
use lib.Ieee.{Float, nan, inf, fin, Format, up, down, unlike, round, sum, add, mul, neg, of_int}
use lib.Ieee.Fits.{down_pos}
use lib.Ieee.Scale.{finite}
use lib.Ieee.Positive.{through}
use Rattle.float.specs.inner.Range.{plain, Within}
use Rattle.float.proofs.Within.{Holds, round-within, fractions-add}
use Rattle.float.proofs.Bounds.{round-neg}
use Rattle.float.specs.inner.Range.{Mag}

plain-finite : (x : Float) → T (plain x) → T (finite x)
plain-finite nan p = absurd p
plain-finite (inf s) p = absurd p
plain-finite (fin s m e) p = tt

pub within-mag : (a c : ℕ) (x : Float) → Within a c x → Mag a c x
within-mag a c x w = record { finite-is = plain-finite x w.plain-is; upper = w.upper }

pub neg-mag : (a c : ℕ) (x : Float) → Mag a c x → Mag a c (neg x)
unfolding neg
neg-mag a c nan w = absurd w.finite-is
neg-mag a c (inf s) w = absurd w.finite-is
neg-mag a c (fin s m e) w = record { finite-is = tt; upper = w.upper }

-- ---- a rounded fraction
pub round-mag : (f : Format) (s : Bool) (n d a c : ℕ) → 0 < d → 0 < c → Holds f a c → n * c ≤ a * d → Mag a c (round f s n d)
round-mag f false n d a c D C v h = within-mag a c (round f false n d) (round-within f n d a c D C v h)
round-mag f true n d a c D C v h = subst (λ (z : Float). Mag a c z) (sym (round-neg f n d)) (neg-mag a c (round f false n d) (within-mag a c (round f false n d) (round-within f n d a c D C v h)))

-- ---- a sum
sum-mag : (f : Format) (s : Bool) (A : ℕ) (t : Bool) (B D a c : ℕ) → 0 < D → 0 < c → Holds f a c → (A + B) * c ≤ a * D → Mag a c (sum f s A t B D)
unfolding sum
sum-mag f s A t B D a c P C v h = go (beq s t) (ltb A B) (s && ltb B A)
  where
    one_way : (A B : ℕ) → A - B ≤ A + B
    one_way A B = omega arith

    other_way : (A B : ℕ) → B - A ≤ A + B
    other_way A B = omega arith

    go : (e l z : Bool) → Mag a c (cond e (round f s (A + B) D) (cond l (round f t (B - A) D) (round f z (A - B) D)))
    go true l z = round-mag f s (A + B) D a c P C v h
    go false true z = round-mag f t (B - A) D a c P C v (le_trans (mul-le-mul_right c (other_way A B)) h)
    go false false z = round-mag f z (A - B) D a c P C v (le_trans (mul-le-mul_right c (one_way A B)) h)

pub add-mag : (f : Format) (x y : Float) (a c b d p q : ℕ) → 0 < c → 0 < d → 0 < q → Holds f p q → Mag a c x → Mag b d y → (a * d + b * c) * q ≤ p * (c * d) → Mag p q (add f x y)
unfolding add
add-mag f nan y a c b d p q C D Q v X Y h = absurd X.finite-is
add-mag f (inf s) y a c b d p q C D Q v X Y h = absurd X.finite-is
add-mag f (fin s m e) nan a c b d p q C D Q v X Y h = absurd Y.finite-is
add-mag f (fin s m e) (inf t) a c b d p q C D Q v X Y h = absurd Y.finite-is
add-mag f (fin s m e) (fin t n g) a c b d p q C D Q v X Y h =
    sum-mag f s (m * up e * down g) t (n * up g * down e) (down e * down g) p q (mul-pos (down_pos e) (down_pos g)) Q v
    (through (m * up e * down g + n * up g * down e) (a * d + b * c) p (down e * down g) (c * d) q (mul-pos C D) (fractions-add (m * up e) (n * up g) (down e) (down g) a b c d X.upper Y.upper) h)

-- ---- a product
pub mul-mag : (f : Format) (x y : Float) (a c b d p q : ℕ) → 0 < c → 0 < d → 0 < q → Holds f p q → Mag a c x → Mag b d y → a * b * q ≤ p * (c * d) → Mag p q (mul f x y)
unfolding mul
mul-mag f nan y a c b d p q C D Q v X Y h = absurd X.finite-is
mul-mag f (inf s) y a c b d p q C D Q v X Y h = absurd X.finite-is
mul-mag f (fin s m e) nan a c b d p q C D Q v X Y h = absurd Y.finite-is
mul-mag f (fin s m e) (inf t) a c b d p q C D Q v X Y h = absurd Y.finite-is
mul-mag f (fin s m e) (fin t n g) a c b d p q C D Q v X Y h =
    round-mag f (unlike s t) (m * up e * (n * up g)) (down e * down g) p q (mul-pos (down_pos e) (down_pos g)) Q v
    (through (m * up e * (n * up g)) (a * b) p (down e * down g) (c * d) q (mul-pos C D)
    (le_trans (le_of_eq (mul-mul-mul_comm (m * up e) (n * up g) c d)) (le_trans (mul-le-mul X.upper Y.upper) (le_of_eq (mul-mul-mul_comm a (down e) b (down g))))) h)

-- ---- an integer
pub int-mag : (f : Format) (z : ℤ) (a : ℕ) → Holds f a 1 → nat_abs z ≤ a → Mag a 1 (of_int f z)
unfolding of_int
int-mag f (pos n) a v h = round-mag f false n 1 a 1 (lit< tt) (lit< tt) v (mul-le-mul_right 1 h)
int-mag f (negsuc n) a v h = round-mag f true (suc n) 1 a 1 (lit< tt) (lit< tt) v (mul-le-mul_right 1 h)
