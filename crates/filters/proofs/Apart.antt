-- A sum of two floats of opposite signs is no larger than the larger of them.
use Rattle.std.proofs.Common.{◌≡◌, ℕ, ◌+◌, ◌-◌, ◌*◌, ◌<◌, ◌≤◌, Bool, true, false, cond, not, ◌&&◌, T, ltb, ap, le_trans, le_of_eq, mul-le-mul_right, mul_assoc, mul_comm, mul-pos, mul_right_comm, arith}
use mathlib.Core.Bool.{beq}
use lib.Ieee.{Float, nan, inf, fin, Format, up, down, round, sum, add, neg}
use lib.Ieee.Fits.{down_pos}
use Rattle.float.specs.inner.Range.{plain, Mag}
use Rattle.float.proofs.Within.{Holds}
use Rattle.float.proofs.Mag.{round-mag}

-- finite, with the sign s
abbrev pub signed : Bool → Float → Bool
signed s nan = false
signed s (inf t) = false
signed s (fin t m e) = beq s t

pub plain-signed : (x : Float) → T (plain x) → T (signed false x)
plain-signed nan p = absurd p
plain-signed (inf s) p = absurd p
plain-signed (fin true m e) p = absurd p
plain-signed (fin false m e) p = tt

pub neg-signed : (x : Float) → T (signed false x) → T (signed true (neg x))
unfolding neg
neg-signed nan p = absurd p
neg-signed (inf s) p = absurd p
neg-signed (fin true m e) p = absurd p
neg-signed (fin false m e) p = tt

sum-apart : (f : Format) (s : Bool) (A B D a c : ℕ) → 0 < D → 0 < c → Holds f a c → A * c ≤ a * D → B * c ≤ a * D → Mag a c (sum f s A (not s) B D)
unfolding sum
sum-apart f s A B D a c P C v h k = go s (ltb A B) (s && ltb B A)
  where
    less : (A B : ℕ) → A - B ≤ A
    less A B = omega arith

    go : (s l z : Bool) → Mag a c (cond (beq s (not s)) (round f s (A + B) D) (cond l (round f (not s) (B - A) D) (round f z (A - B) D)))
    go true true z = round-mag f false (B - A) D a c P C v (le_trans (mul-le-mul_right c (less B A)) k)
    go true false z = round-mag f z (A - B) D a c P C v (le_trans (mul-le-mul_right c (less A B)) h)
    go false true z = round-mag f true (B - A) D a c P C v (le_trans (mul-le-mul_right c (less B A)) k)
    go false false z = round-mag f z (A - B) D a c P C v (le_trans (mul-le-mul_right c (less A B)) h)

-- X / dx is at most a / c
over : (X dx dy a c : ℕ) → X * c ≤ a * dx → X * dy * c ≤ a * (dx * dy)
over X dx dy a c h = le_trans (le_of_eq (mul_right_comm X dy c)) (le_trans (mul-le-mul_right dy h) (le_of_eq (mul_assoc a dx dy)))

flip : (X dx dy a c : ℕ) → X * c ≤ a * dx → X * dy * c ≤ a * (dy * dx)
flip X dx dy a c h = le_trans (over X dx dy a c h) (le_of_eq (ap (λ (z : ℕ). a * z) (swap dx dy)))
  where
    swap : (x y : ℕ) → x * y ≡ y * x
    swap x y = mul_comm x y

-- LAW: of opposite signs, each of magnitude at most a / c, which the format holds: so is the sum
pub add_apart : (f : Format) (s : Bool) (x y : Float) (a c : ℕ) → 0 < c → Holds f a c → T (signed s x) → T (signed (not s) y) → Mag a c x → Mag a c y → Mag a c (add f x y)
unfolding add
add_apart f s nan y a c C v p q X Y = absurd p
add_apart f s (inf t) y a c C v p q X Y = absurd p
add_apart f s (fin t m e) nan a c C v p q X Y = absurd q
add_apart f s (fin t m e) (inf u) a c C v p q X Y = absurd q
add_apart f true (fin true m e) (fin false n g) a c C v p q X Y = sum-apart f true (m * up e * down g) (n * up g * down e) (down e * down g) a c (mul-pos (down_pos e) (down_pos g)) C v (over (m * up e) (down e) (down g) a c X.upper) (flip (n * up g) (down g) (down e) a c Y.upper)
add_apart f false (fin false m e) (fin true n g) a c C v p q X Y = sum-apart f false (m * up e * down g) (n * up g * down e) (down e * down g) a c (mul-pos (down_pos e) (down_pos g)) C v (over (m * up e) (down e) (down g) a c X.upper) (flip (n * up g) (down g) (down e) a c Y.upper)
add_apart f true (fin false m e) (fin t n g) a c C v p q X Y = absurd p
add_apart f false (fin true m e) (fin t n g) a c C v p q X Y = absurd p
add_apart f true (fin true m e) (fin true n g) a c C v p q X Y = absurd q
add_apart f false (fin false m e) (fin false n g) a c C v p q X Y = absurd q
