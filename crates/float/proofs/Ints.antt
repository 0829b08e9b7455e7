-- Signed integers by their sizes: what a cast to a float and a difference ask. Assumes nothing.
use mathlib.Core.Path.{◌≡◌, refl}
use Prim.Native.Nat.{ℕ, zero, suc, ◌+◌, ◌-◌, ◌^◌, ◌≤◌, ◌<◌}
use native.Mathlib.Nat.{le_trans, le_of_eq, le_refl, add-le-add}
use native.Mathlib.Omega.{arith}
use mathlib.Core.Bool.{Bool, true, false, cond}
use lib.IntN.{ℤ, pos, negsuc, neg_ℤ, nat_abs, ◌+ℤ◌, ◌-ℤ◌, +ℤ_idl}
use lib.Dec.{T, ltb, le→leb, lt→ltb, ltb→lt}
use lib.Ieee.{binary32, in_float}
use mir.Syntax.{w32}
use mir.Val.{SFits}

pub abs_neg : (z : ℤ) → nat_abs (neg_ℤ z) ≡ nat_abs z
abs_neg (pos zero) = refl
abs_neg (pos (suc n)) = refl
abs_neg (negsuc n) = refl

abs-sub : (a b : ℕ) → nat_abs (cond (ltb a b) (negsuc (b - suc a)) (pos (a - b))) ≤ a + b
abs-sub a b = go (ltb a b) (ltb→lt a b)
  where
    low : (a b : ℕ) → a < b → suc (b - suc a) ≤ a + b
    low a b h = omega arith

    high : (a b : ℕ) → a - b ≤ a + b
    high a b = omega arith

    go : (t : Bool) → (T t → a < b) → nat_abs (cond t (negsuc (b - suc a)) (pos (a - b))) ≤ a + b
    go true h = low a b (h tt)
    go false h = high a b

pub abs-add : (a b : ℤ) → nat_abs (a +ℤ b) ≤ nat_abs a + nat_abs b
abs-add (pos a) (pos b) = le_refl (a + b)
abs-add (pos a) (negsuc b) = abs-sub a (suc b)
abs-add (negsuc a) (pos b) = le_trans (abs-sub b (suc a)) (le_of_eq (swap b (suc a)))
  where
    swap : (x y : ℕ) → x + y ≡ y + x
    swap x y = omega arith
abs-add (negsuc a) (negsuc b) = le_of_eq (up a b)
  where
    up : (x y : ℕ) → suc (suc (x + y)) ≡ suc x + suc y
    up x y = omega arith

pub abs-minus : (a b : ℤ) (m n : ℕ) → nat_abs a ≤ m → nat_abs b ≤ n → nat_abs (a -ℤ b) ≤ m + n
abs-minus a b m n h k = le_trans (abs-add a (neg_ℤ b)) (add-le-add h (le_trans (le_of_eq (abs_neg b)) k))

pub minus_is : (z : ℤ) → pos 0 -ℤ z ≡ neg_ℤ z
minus_is z = +ℤ_idl (neg_ℤ z)

-- what a cast to an `f32` asks
pub abs-in-float : (z : ℤ) → nat_abs z ≤ 16777216 → T (in_float binary32 z)
unfolding in_float
abs-in-float (pos n) h = le→leb n (2 ^ 24) h
abs-in-float (negsuc n) h = lt→ltb n (2 ^ 24) h

pub abs-sfits : (z : ℤ) → nat_abs z ≤ 16777216 → SFits w32 z
abs-sfits (pos n) h = record { sfits = wide n h }
  where
    wide : (n : ℕ) → n ≤ 16777216 → n < 2147483648
    wide n h = omega arith
abs-sfits (negsuc n) h = record { sfits = wide n h }
  where
    wide : (n : ℕ) → suc n ≤ 16777216 → n < 2147483648
    wide n h = omega arith
