-- A float less its whole part, as Rust's `*ph -= ph.floor();`, at floats with no sign: the subtraction is exact.
-- Assumes nothing.
use mathlib.Core.Path.{◌≡◌, refl, sym, ap, ◌∙◌, subst}
use Prim.Native.Nat.{ℕ, zero, suc, ◌+◌, ◌-◌, ◌*◌, ◌/◌, ◌%◌, ◌^◌, ◌≤◌, ◌<◌, min}
use native.Mathlib.Nat.{le_trans, le_of_eq, lt_of_lt_of_le, lt_of_le_of_lt, mul_comm, mul_assoc, mul_left_comm, mul-le-mul_right, mul-lt-mul_of_pos_right, mul-pos, zero-lt-suc, mul-one, one-mul, mul-sub, mod-le, mod-one, zero-mod, zero-mul, div-mul-le_self, mod-eq-sub-div-mul, div-le_of_le-mul, le-add_right, div-eq_of_lt, div-eq_of_lt-le, lt_of_not-le, le_of_suc-le-suc}
use native.Mathlib.Omega.{arith}
use mathlib.Core.Bool.{true, false}
use lib.IntN.{pos, negsuc}
use lib.Dec.{T, lt→ltb, lit≤, lit<}
use lib.Pow.{pow_pos}
use lib.Ieee.{Float, nan, inf, fin, binary32, up, down, round, sub, le, lt, of_int, to_unsigned, fits}
use lib.Ieee.Fits.{down_pos}
use lib.Ieee.Exact.{HasValue, round_exact}
use lib.Ieee.Back.{round_whole}
use lib.Ieee.Order.{transfer}
use lib.Ieee.Scale.{round_same}
use lib.Ieee.Positive.{num, den, den_pos}
use Rattle.float.specs.inner.Range.{plain, Within}
use Rattle.float.proofs.Within.{Holds, fitting, value-plain, value-cross, sub_is, holds_at, cross→lt, cross→le, lt→cross, le→cross}
use Rattle.float.proofs.Unique.{round-self}
use Rattle.float.specs.Fraction.{fraction}

-- ---- the whole part
capped : (a c : ℕ) → a ≤ 16777216 → 16777216 ≤ c - 1 → min a (c - 1) ≡ a
capped a c h k = omega arith

pub whole_is : (w : ℕ) (x : Float) → 16777216 ≤ 2 ^ w - 1 → Within 16777216 1 x → to_unsigned w x ≡ num x / den x
unfolding to_unsigned
whole_is w nan k h = absurd h.plain-is
whole_is w (inf s) k h = absurd h.plain-is
whole_is w (fin true m e) k h = absurd h.plain-is
whole_is w (fin false m e) k h = capped (m * up e / down e) (2 ^ w) (div-le_of_le-mul (down e) (le_trans (le_of_eq (sym (mul-one (m * up e)))) (le_trans h.upper (le_of_eq (mul_comm 16777216 (down e)))))) k

whole_le : (x : Float) → Within 16777216 1 x → num x / den x ≤ 16777216
whole_le x h = div-le_of_le-mul (den x) (le_trans (le_of_eq (sym (mul-one (num x)))) (le_trans h.upper (le_of_eq (mul_comm 16777216 (den x)))))

-- ---- the difference is exact
-- X / dx - Y / dy, where Y / dy is the whole part of X / dx, is (X % dx) / dx
rest : (X dx Y dy : ℕ) → Y * 1 ≡ X / dx * dy → (X * dy - Y * dx) * dx ≡ X % dx * (dx * dy)
rest X dx Y dy h =
    let y : Y * dx ≡ dy * (X / dx * dx) = ap (λ (z : ℕ). z * dx) (sym (mul-one Y) ∙ h) ∙ simp (mul_assoc, mul_comm, mul_left_comm) in
    ap (λ (z : ℕ). (X * dy - z) * dx) y
    ∙ ap (λ (z : ℕ). (z - dy * (X / dx * dx)) * dx) (mul_comm X dy)
    ∙ ap (λ (z : ℕ). z * dx) (sym (mul-sub dy X (X / dx * dx)))
    ∙ ap (λ (z : ℕ). dy * z * dx) (sym (mod-eq-sub-div-mul X dx))
    ∙ simp (mul_assoc, mul_comm, mul_left_comm)

rest-holds : (x : Float) → T (fits binary32 x) → T (plain x) → Holds binary32 (num x % den x) (den x)
unfolding fits
rest-holds nan t p = absurd p
rest-holds (inf s) t p = absurd p
rest-holds (fin true m e) t p = absurd p
rest-holds (fin false m (pos k)) t p = subst (λ (z : ℕ). Holds binary32 z 1) (sym (mod-one (m * 2 ^ k))) (unfold round in (refl, refl))
rest-holds (fin false zero (negsuc k)) t p = subst (λ (z : ℕ). Holds binary32 z (2 ^ suc k)) (sym (ap (λ (z : ℕ). z % 2 ^ suc k) (zero-mul 1) ∙ zero-mod (2 ^ suc k))) (fits-zero (2 ^ suc k) (pow_pos (suc k)))
  where
    fits-zero : (n : ℕ) → 0 < n → Holds binary32 0 n
    fits-zero n h = round_exact binary32 false 0 n 0 0 h (pow_pos 24) (pow_pos 277) (zero-mul (2 ^ 149) ∙ sym (zero-mul n))
rest-holds (fin false (suc m) (negsuc k)) t p =
    let F = fitting binary32 false m (negsuc k) t in
    let r = suc m * 1 % 2 ^ suc k in
    let rm : r ≤ suc m * 1 = mod-le (suc m * 1) (2 ^ suc k) in
    subst (λ (z : ℕ). Holds binary32 z (2 ^ suc k)) (mul-one r)
    (holds_at binary32 r (negsuc k) (lt_of_le_of_lt (le_trans rm (le_of_eq (mul-one (suc m)))) F.short) F.fine (lt_of_le_of_lt (le_trans (le_of_eq (mul-one r)) rm) F.under))

-- LAW: the subtraction in `fraction` is exact
pub fraction-value : (x : Float) → T (fits binary32 x) → Within 16777216 1 x → HasValue (fraction x) false (num x % den x) (den x)
unfolding of_int
fraction-value x t h =
    let X = num x in
    let dx = den x in
    let w = X / dx in
    let y = round binary32 false w 1 in
    let v : HasValue y false w 1 = round_whole binary32 false w (whole_le x h) in
    let c : num y * 1 ≡ w * den y = value-cross y w 1 v in
    let l : num y * dx ≤ X * den y = transfer (num y) X (den y) dx w X 1 dx (zero-lt-suc 0) (den_pos x) c refl (le_trans (div-mul-le_self X dx) (le_of_eq (sym (mul-one X)))) in
    let s : sub binary32 x y ≡ round binary32 false (X % dx) dx =
    sub_is binary32 x y h.plain-is (value-plain y w 1 v) l
    ∙ round_same binary32 false (X * den y - num y * dx) (dx * den y) (X % dx) dx (mul-pos (den_pos x) (den_pos y)) (den_pos x) (rest X dx (num y) (den y) c) in
    subst (λ (z : Float). HasValue z false (X % dx) dx)
    (sym (ap (λ (n : ℕ). sub binary32 x (round binary32 false n 1)) (whole_is 64 x (lit≤ tt) h) ∙ s))
    (rest-holds x t h.plain-is)

-- a wider bound
pub widen : (a b : ℕ) (x : Float) → a ≤ b → Within a 1 x → Within b 1 x
widen a b x h w = record { plain-is = w.plain-is; upper = le_trans w.upper (mul-le-mul_right (den x) h) }

-- ---- what the casts ask
pub above_minus_one : (x : Float) → T (plain x) → T (lt (fin true 1 (pos 0)) x)
unfolding lt
above_minus_one nan p = absurd p
above_minus_one (inf s) p = absurd p
above_minus_one (fin true m e) p = absurd p
above_minus_one (fin false m e) p = lt→ltb 0 (1 * 1 * down e + m * up e * 1) (lt_of_lt_of_le (mul-pos (lit< tt) (down_pos e)) (le-add_right (1 * 1 * down e) (m * up e * 1)))

pub under_top : (x : Float) → Within 16777216 1 x → T (lt x (fin false 1 (pos 64)))
under_top x h = cross→lt x (fin false 1 (pos 64)) h.plain-is tt (lt_of_le_of_lt h.upper (mul-lt-mul_of_pos_right (lit< tt) (den_pos x)))

pub whole-small : (x : Float) → Within 16777216 1 x → to_unsigned 64 x ≤ 16777216
whole-small x h = le_trans (le_of_eq (whole_is 64 x (lit≤ tt) h)) (whole_le x h)

-- ---- where the whole part is 0 or 1
abbrev pub one : Float
one = fin false 1 (pos 0)

quot : (w X dx : ℕ) → 0 < dx → w * dx ≤ X → X < (w + 1) * dx → X / dx ≡ w
quot w X dx D l u = div-eq_of_lt-le dx l u

-- x < 1: nothing is taken off
pub fraction-below : (x : Float) → T (fits binary32 x) → Within 16777216 1 x → T (lt x one) → fraction x ≡ x
unfolding of_int round
fraction-below x t h l =
    let X = num x in
    let dx = den x in
    let z : X / dx ≡ 0 = div-eq_of_lt (lt_of_le_of_lt (le_of_eq (sym (mul-one X))) (lt_of_lt_of_le (lt→cross x one h.plain-is tt l) (le_of_eq (one-mul dx)))) in
    let e : num (fin false 0 (pos 0)) * dx ≡ 0 = zero-mul dx in
    ap (λ (n : ℕ). sub binary32 x (of_int binary32 (pos n))) (whole_is 64 x (lit≤ tt) h ∙ z)
    ∙ sub_is binary32 x (fin false 0 (pos 0)) h.plain-is tt (le_trans (le_of_eq e) (low0 (X * 1)))
    ∙ ap (λ (n : ℕ). round binary32 false (X * 1 - n) (dx * 1)) e
    ∙ round_same binary32 false (X * 1 - 0) (dx * 1) X dx (mul-pos (den_pos x) (lit< tt)) (den_pos x) (ap (λ (n : ℕ). n * dx) (off X) ∙ ap (λ (n : ℕ). X * n) (sym (mul-one dx)))
    ∙ round-self binary32 x t h.plain-is
  where
    low0 : (n : ℕ) → 0 ≤ n
    low0 n = omega arith

    off : (n : ℕ) → n * 1 - 0 ≡ n
    off n = omega arith

-- 1 ≤ x < 2: one is taken off
pub fraction-over : (x : Float) → Within 16777216 1 x → T (le one x) → T (lt x (fin false 1 (pos 1))) → fraction x ≡ sub binary32 x one
unfolding of_int round
fraction-over x h k l =
    let X = num x in
    let dx = den x in
    let z : X / dx ≡ 1 = quot 1 X dx (den_pos x) (le_trans (le→cross one x tt h.plain-is k) (le_of_eq (mul-one X)))
    (lt_of_le_of_lt (le_of_eq (sym (mul-one X))) (lt→cross x (fin false 1 (pos 1)) h.plain-is tt l)) in
    ap (λ (n : ℕ). sub binary32 x (of_int binary32 (pos n))) (whole_is 64 x (lit≤ tt) h ∙ z)

-- the other way of a test
pub not-lt : (x y : Float) → T (plain x) → T (plain y) → lt x y ≡ false → T (le y x)
not-lt x y p q h = cross→le y x q p (le_of_suc-le-suc (lt_of_not-le (λ (g : num x * den y < num y * den x). subst T h (cross→lt x y p q g))))
