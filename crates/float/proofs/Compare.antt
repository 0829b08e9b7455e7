-- The order of finite floats, and what it says of their bounds. Assumes nothing.
use mathlib.Core.Path.{◌≡◌, sym, subst}
use mathlib.Core.Logic.{inl, inr}
use Prim.Native.Nat.{ℕ, ◌+◌, ◌*◌, ◌≤◌}
use native.Mathlib.Nat.{le_trans, le_of_eq, le_of_lt, eq-or-lt_of_le}
use native.Mathlib.Omega.{arith}
use mathlib.Core.Bool.{Bool, true, false, not, ◌&&◌, ◌||◌, beq}
use lib.Dec.{T, ltb, eqb, eqb_refl, lt→ltb, nltb→le}
use lib.Ieee.{Float, nan, inf, fin, up, down, lt, le, below, level}
use lib.Ieee.Fits.{and_i, eq→eqb}
use lib.Ieee.Scale.{finite}
use lib.Ieee.Positive.{num, den, positive, above, above_of_le}
use Rattle.float.specs.inner.Range.{plain, Within, StrictlyWithin, AtLeast}
use Rattle.float.proofs.Within.{le→cross}
use Rattle.float.proofs.Subnormal.{positive-plain}

-- ---- of two finite floats of either sign, one is at most the other
or_left : (a b : Bool) → T a → T (a || b)
or_left true b t = tt
or_left false b t = absurd t

or_right : (a b : Bool) → T b → T (a || b)
or_right true b t = tt
or_right false b t = t

test-off : (b : Bool) → b ≡ false → T (not b)
test-off true h = subst T h tt
test-off false h = tt

not-below-plus : (a b : ℕ) → b ≤ a → T (ltb b a || (eqb b a && true))
not-below-plus a b h =
    elim (eq-or-lt_of_le h) [
      | inl e ↦ or_right (ltb b a) (eqb b a && true) (and_i (eqb b a) true (eq→eqb e) tt)
      | inr l ↦ or_left (ltb b a) (eqb b a && true) (lt→ltb b a l)
    ]

not-below-minus : (a b : ℕ) → a ≤ b → T (ltb a b || (eqb b a && true))
not-below-minus a b h =
    elim (eq-or-lt_of_le h) [
      | inl e ↦ or_right (ltb a b) (eqb b a && true) (and_i (eqb b a) true (eq→eqb (sym e)) tt)
      | inr l ↦ or_left (ltb a b) (eqb b a && true) (lt→ltb a b l)
    ]

-- two sizes whose sum is 0 are 0
both_zero : (a b : ℕ) → b + a ≤ 0 → T (eqb b a && eqb b 0)
both_zero a b h = and_i (eqb b a) (eqb b 0) (eq→eqb (same a b h)) (eq→eqb (is_zero a b h))
  where
    same : (a b : ℕ) → b + a ≤ 0 → b ≡ a
    same a b h = omega arith

    is_zero : (a b : ℕ) → b + a ≤ 0 → b ≡ 0
    is_zero a b h = omega arith

not-below : (s : Bool) (a : ℕ) (t : Bool) (b : ℕ) → below s a t b ≡ false → T (below t b s a || level t b s a)
not-below false a false b h = not-below-plus a b (nltb→le a b (test-off (ltb a b) h))
not-below true a true b h = not-below-minus a b (nltb→le b a (test-off (ltb b a) h))
not-below false a true b h = go (ltb 0 (b + a)) (nltb→le 0 (b + a))
  where
    go : (c : Bool) → (T (not c) → b + a ≤ 0) → T (c || (eqb b a && eqb b 0))
    go true f = tt
    go false f = both_zero a b (f tt)
not-below true a false b h = both_zero a b (le_trans (le_of_eq (swap a b)) (nltb→le 0 (a + b) (test-off (ltb 0 (a + b)) h)))
  where
    swap : (a b : ℕ) → b + a ≡ a + b
    swap a b = omega arith

-- LAW: x not below y, both finite, is y at most x
pub finite-not-lt : (x y : Float) → T (finite x) → T (finite y) → lt x y ≡ false → T (le y x)
unfolding lt le
finite-not-lt nan y p q h = absurd p
finite-not-lt (inf s) y p q h = absurd p
finite-not-lt (fin s m e) nan p q h = absurd q
finite-not-lt (fin s m e) (inf t) p q h = absurd q
finite-not-lt (fin s m e) (fin t n d) p q h = not-below s (m * up e * down d) t (n * up d * down e) h

same_sign : (s : Bool) (c : Bool) → T (beq s s || c)
same_sign true c = tt
same_sign false c = tt

pub finite-le-self : (x : Float) → T (finite x) → T (le x x)
unfolding le
finite-le-self nan p = absurd p
finite-le-self (inf s) p = absurd p
finite-le-self (fin s m e) p =
    let a = m * up e * down e in
    or_right (below s a s a) (level s a s a) (and_i (eqb a a) (beq s s || eqb a 0) (eqb_refl a) (same_sign s (eqb a 0)))

pub lt-le : (x y : Float) → T (lt x y) → T (le x y)
unfolding le
lt-le x y h = or_left (lt x y) _ h

-- ---- with no sign: the order is a bound
pub le-at-least : (x y : Float) → T (plain x) → T (plain y) → T (le y x) → AtLeast (num y) (den y) x
le-at-least x y p q h = record { plain-is = p; lower = le→cross y x q p h }

-- what is at least a positive float has no sign
finite-above : (x : Float) → T (finite x) → T (above x) → T (plain x)
finite-above nan f a = absurd f
finite-above (inf s) f a = absurd f
finite-above (fin true m e) f a = absurd a
finite-above (fin false m e) f a = tt

pub over-positive : (x y : Float) → T (finite x) → T (positive y) → T (le y x) → AtLeast (num y) (den y) x
over-positive x y f p h = le-at-least x y (finite-above x f (above_of_le y x p h)) (positive-plain y p) h

pub below-within : (a c : ℕ) (x : Float) → StrictlyWithin a c x → Within a c x
below-within a c x w = record { plain-is = w.plain-is; upper = le_of_lt w.strict }
