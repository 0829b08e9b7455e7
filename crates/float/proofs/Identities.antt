-- Operations that give a float back, for every f32 (NaN, infinities, both zeros): -0 added, 1 multiplied. And floats that compare equal are one. Assumes nothing.
use mathlib.Core.Path.{◌≡◌, refl, sym, ap, ◌∙◌, subst}
use Prim.Native.Nat.{ℕ, ◌+◌, ◌-◌, ◌*◌, ◌<◌}
use native.Mathlib.Nat.{zero-mul}
use native.Mathlib.Omega.{arith}
use mathlib.Core.Bool.{Bool, true, false, ◌&&◌}
use lib.IntN.{ℤ, pos}
use lib.Dec.{T, ltb, ltb→lt, eqb, eqb→eq, not_T}
use lib.Ieee.{Float, nan, inf, fin, binary32, up, down, round, sum, add, mul, neg, eq, fits}
use lib.Ieee.Bits.{cond_no}
use lib.Ieee.Fits.{and_l, neg-fits}
use lib.Ieee.Positive.{num, den}
use Rattle.float.specs.inner.Range.{plain}
use Rattle.float.proofs.Within.{on-plains}
use Rattle.float.proofs.Unique.{plain-unique, round-self}
use Rattle.float.proofs.Bounds.{round-neg}

-- -0
abbrev pub minus-zero : Float
minus-zero = fin true 0 (pos 0)

once : (a : ℕ) → a * 1 ≡ a
once a = omega arith

-- ---- a value that fits is rounded to itself, whatever its sign
module _ (m : ℕ) (e : ℤ) where
  opposite : T (fits binary32 (fin true m e)) → T (fits binary32 (fin false m e))
  unfolding neg
  opposite t = neg-fits binary32 (fin true m e) t

  pub rounds-to-itself : (s : Bool) → T (fits binary32 (fin s m e)) → round binary32 s (m * up e) (down e) ≡ fin s m e
  unfolding neg
  rounds-to-itself false t = round-self binary32 (fin false m e) t tt
  rounds-to-itself true t = round-neg binary32 (m * up e) (down e) ∙ ap neg (round-self binary32 (fin false m e) (opposite t) tt)

  rounded : (s : Bool) (a : ℕ) → T (fits binary32 (fin s m e)) → a ≡ m * up e → round binary32 s a (down e * 1) ≡ fin s m e
  rounded s a t h = ap (λ (z : ℕ). round binary32 s z (down e * 1)) h ∙ ap (λ (z : ℕ). round binary32 s (m * up e) z) (once (down e)) ∙ rounds-to-itself s t

-- ---- -0 added
-- a / c, and nothing off it
less_none : (a b c : ℕ) → b ≡ 0 → sum binary32 false a true b c ≡ round binary32 false a c
unfolding sum
less_none a b c h =
    cond_no (ltb a b) (round binary32 true (b - a) c) (round binary32 false (a - b) c) (not_T (ltb a b) (λ (t : T (ltb a b)). not-under-zero a b h (ltb→lt a b t)))
    ∙ ap (λ (z : ℕ). round binary32 false z c) (off a b h)
  where
    not-under-zero : (a b : ℕ) → b ≡ 0 → a < b → ⊥
    not-under-zero a b h k = omega arith

    off : (a b : ℕ) → b ≡ 0 → a - b ≡ a
    off a b h = omega arith

plus_none : (a b : ℕ) → b ≡ 0 → a * 1 + b ≡ a
plus_none a b h = omega arith

pub add-minus-zero : (x : Float) → T (fits binary32 x) → add binary32 x minus-zero ≡ x
unfolding add sum
add-minus-zero nan t = refl
add-minus-zero (inf s) t = refl
add-minus-zero (fin false m e) t = less_none (m * up e * 1) (0 * 1 * down e) (down e * 1) (zero-mul (down e)) ∙ rounded m e false (m * up e * 1) t (once (m * up e))
add-minus-zero (fin true m e) t = rounded m e true (m * up e * 1 + 0 * 1 * down e) t (plus_none (m * up e) (0 * 1 * down e) (zero-mul (down e)))

-- ---- 1 multiplied
pub mul-one : (x : Float) → T (fits binary32 x) → mul binary32 x (fin false 1 (pos 0)) ≡ x
unfolding mul
mul-one nan t = refl
mul-one (inf false) t = refl
mul-one (inf true) t = refl
mul-one (fin false m e) t = rounded m e false (m * up e * 1) t (once (m * up e))
mul-one (fin true m e) t = rounded m e true (m * up e * 1) t (once (m * up e))

-- ---- floats with no sign that compare equal
level : (x y : Float) → T (plain x) → T (plain y) → T (eq x y) → num x * den y ≡ num y * den x
unfolding eq
level x y p q =
    on-plains (λ (v w : Float). T (eq v w) → num v * den w ≡ num w * den v)
    (λ (m : ℕ) (e : ℤ) (n : ℕ) (d : ℤ) (k : T (eqb (m * up e * down d) (n * up d * down e) && true)). eqb→eq (m * up e * down d) (n * up d * down e) (and_l (eqb (m * up e * down d) (n * up d * down e)) true k))
    x y p q

pub same_float : (x y : Float) → T (fits binary32 x) → T (fits binary32 y) → T (plain x) → T (plain y) → eq x y ≡ true → x ≡ y
same_float x y t u p q h = plain-unique binary32 x y t u p q (level x y p q (subst T (sym h) tt))
