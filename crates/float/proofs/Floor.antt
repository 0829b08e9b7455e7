-- The whole part of a small float without an integer: (x + 2 ^ 23) - 2 ^ 23 is the whole part or one more, and a comparison says which. Assumes nothing.
use mathlib.Core.Path.{◌≡◌, refl, sym, ap, ◌∙◌, subst}
use mathlib.Core.Logic.{◌⊎◌, inl, inr}
use Prim.Native.Nat.{ℕ, zero, suc, ◌+◌, ◌-◌, ◌*◌, ◌/◌, ◌^◌, ◌≤◌, ◌<◌}
use native.Mathlib.Nat.{le_trans, le_of_eq, le_of_lt, lt_of_lt_of_le, mul_right_comm, mul-le-mul_right, mul-pos, mul-one, one-mul, add-mul, not-le_of_lt, pow-succ', div-mul-le_self, lt-div-mul-add, eq-or-lt_of_le, le_of_mul-le-mul_right, mul-lt-mul_of_pos_right}
use native.Mathlib.Omega.{arith}
use mathlib.Core.Bool.{true, false}
use lib.IntN.{pos, negsuc}
use lib.Dec.{T, lit≤, lit<}
use lib.Pow.{pow_pos}
use lib.Ieee.{Float, nan, inf, fin, binary32, round, add, sub, le, lt, of_int, to_unsigned, fits}
use lib.Ieee.Fits.{add-fits}
use lib.Ieee.Exact.{HasValue}
use lib.Ieee.Back.{round_whole}
use lib.Ieee.Order.{transfer, round_mono}
use lib.Ieee.Scale.{round_same}
use lib.Ieee.Positive.{num, den, den_pos}
use Rattle.float.specs.inner.Range.{plain, Within}
use Rattle.float.proofs.Within.{value-plain, value-cross, round-within, fitting, add_is, sub_is, le→cross, lt→cross, cross→lt}
use Rattle.float.proofs.Bounds.{int-value}
use Rattle.float.proofs.Fraction.{whole_is, widen, one}

-- 2 ^ 23
abbrev pub big : Float
big = fin false 1 (pos 23)

-- the whole part of x, or one more
abbrev pub near-whole : Float → Float
near-whole x = sub binary32 (add binary32 x big) big

-- ---- from 2 ^ 23 on a float is whole
den-one : (y : Float) → T (fits binary32 y) → T (plain y) → 8388608 * den y ≤ num y → den y ≡ 1
unfolding fits
den-one nan t p h = absurd p
den-one (inf s) t p h = absurd p
den-one (fin true m e) t p h = absurd p
den-one (fin false m (pos k)) t p h = refl
den-one (fin false zero (negsuc k)) t p h = absurd (not-under-zero (8388608 * 2 ^ suc k) (mul-pos (lit< tt) (pow_pos (suc k))) h)
  where
    not-under-zero : (a : ℕ) → 0 < a → a ≤ 0 * 1 → ⊥
    not-under-zero a h k = omega arith
den-one (fin false (suc m) (negsuc k)) t p h =
    absurd (not_short (suc m) (2 ^ k) (pow_pos k) (fitting binary32 false m (negsuc k) t).short (subst (λ (z : ℕ). 8388608 * z ≤ suc m * 1) (pow-succ' 2 k) h))
  where
    not_short : (m p : ℕ) → 0 < p → m < 2 ^ 24 → 8388608 * (2 * p) ≤ m * 1 → ⊥
    not_short m p P u l = omega arith

-- ---- x + 2 ^ 23 is 2 ^ 23 + w or one more, for the whole part w of x
module _ (x : Float) (h : Within 1048577 1 x) where
  abbrev w : ℕ
  w = num x / den x

  abbrev y : Float
  y = add binary32 x big

  lowest : w * den x ≤ num x
  lowest = div-mul-le_self (num x) (den x)

  highest : num x ≤ (w + 1) * den x
  highest = le_trans (le_of_lt (lt-div-mul-add (den_pos x))) (le_of_eq (sym (add-mul w 1 (den x) ∙ ap (λ (z : ℕ). w * den x + z) (one-mul (den x)))))

  w_le : w ≤ 1048577
  w_le = le-of-mul (w) (den x) (den_pos x) (le_trans lowest (le_trans (le_of_eq (sym (mul-one (num x)))) h.upper))
    where
      le-of-mul : (a d : ℕ) → 0 < d → a * d ≤ 1048577 * d → a ≤ 1048577
      le-of-mul a d D g = le_of_mul-le-mul_right g D

  small : w + 1 ≤ 8388608
  small = go w w_le
    where
      go : (a : ℕ) → a ≤ 1048577 → a + 1 ≤ 8388608
      go a g = omega arith

  top-value : HasValue (round binary32 false (8388608 + (w + 1)) 1) false (8388608 + (w + 1)) 1
  top-value = round_whole binary32 false (8388608 + (w + 1)) (go w small)
    where
      go : (a : ℕ) → a + 1 ≤ 8388608 → 8388608 + (a + 1) ≤ 16777216
      go a g = omega arith

  low_value : HasValue (round binary32 false (8388608 + w) 1) false (8388608 + w) 1
  low_value = round_whole binary32 false (8388608 + w) (go w small)
    where
      go : (a : ℕ) → a + 1 ≤ 8388608 → 8388608 + a ≤ 16777216
      go a g = omega arith

  y-is : y ≡ round binary32 false (num x * 1 + 1 * 8388608 * den x) (den x * 1)
  y-is = add_is binary32 x big h.plain-is tt

  D-pos : 0 < den x * 1
  D-pos = mul-pos (den_pos x) (lit< tt)

  y-within : Within (8388608 + (w + 1)) 1 y
  y-within =
      subst (λ (z : Float). Within (8388608 + (w + 1)) 1 z) (sym y-is)
      (round-within binary32 (num x * 1 + 1 * 8388608 * den x) (den x * 1) (8388608 + (w + 1)) 1 D-pos (lit< tt) top-value
      (le_trans (over (num x) (w * den x) (den x) (le_trans highest (le_of_eq (add-mul w 1 (den x))))) (le_of_eq (sym (spread w (den x))))))
    where
      over : (X a d : ℕ) → X ≤ a + 1 * d → (X * 1 + 1 * 8388608 * d) * 1 ≤ 8388608 * d + (a + 1 * d)
      over X a d g = omega arith

      spread : (a d : ℕ) → (8388608 + (a + 1)) * (d * 1) ≡ 8388608 * d + (a * d + 1 * d)
      spread a d = ap (λ (z : ℕ). (8388608 + (a + 1)) * z) (mul-one d) ∙ add-mul 8388608 (a + 1) d ∙ ap (λ (z : ℕ). 8388608 * d + z) (add-mul a 1 d)

  y-low : (8388608 + w) * den y ≤ num y
  y-low =
      let r = round binary32 false (8388608 + w) 1 in
      let l : T (le r y) =
      subst (λ (z : Float). T (le r z)) (sym y-is)
      (round_mono binary32 (8388608 + w) 1 (num x * 1 + 1 * 8388608 * den x) (den x * 1) (lit< tt) D-pos
      (le_trans (le_of_eq (spread w (den x))) (below (num x) (w * den x) (den x) lowest))) in
      le_trans
      (transfer (8388608 + w) (num y) 1 (den y) (num r) (num y) (den r) (den y) (den_pos r) (den_pos y) (sym (value-cross r (8388608 + w) 1 low_value)) refl
      (le→cross r y (value-plain r (8388608 + w) 1 low_value) y-within.plain-is l))
      (le_of_eq (mul-one (num y)))
    where
      below : (X a d : ℕ) → a ≤ X → 8388608 * d + a ≤ (X * 1 + 1 * 8388608 * d) * 1
      below X a d g = omega arith

      spread : (a d : ℕ) → (8388608 + a) * (d * 1) ≡ 8388608 * d + a * d
      spread a d = ap (λ (z : ℕ). (8388608 + a) * z) (mul-one d) ∙ add-mul 8388608 a d

  y-den : den y ≡ 1
  y-den = den-one y (add-fits binary32 x big) y-within.plain-is (le_trans (mul-le-mul_right (den y) (go w)) y-low)
    where
      go : (a : ℕ) → 8388608 ≤ 8388608 + a
      go a = omega arith

  y-either : (num y ≡ 8388608 + w) ⊎ (num y ≡ 8388608 + (w + 1))
  y-either =
      two (num y) w
      (le_trans (le_of_eq (sym (mul-one (8388608 + w)) ∙ ap (λ (z : ℕ). (8388608 + w) * z) (sym y-den))) y-low)
      (le_trans (le_of_eq (sym (mul-one (num y)))) (le_trans y-within.upper (le_of_eq (ap (λ (z : ℕ). (8388608 + (w + 1)) * z) y-den ∙ mul-one (8388608 + (w + 1))))))
    where
      two : (n a : ℕ) → 8388608 + a ≤ n → n ≤ 8388608 + (a + 1) → (n ≡ 8388608 + a) ⊎ (n ≡ 8388608 + (a + 1))
      two n a l u = go (eq-or-lt_of_le u)
        where
          low : (n a : ℕ) → 8388608 + a ≤ n → n < 8388608 + (a + 1) → n ≡ 8388608 + a
          low n a l u = omega arith

          go : (n ≡ 8388608 + (a + 1)) ⊎ (n < 8388608 + (a + 1)) → (n ≡ 8388608 + a) ⊎ (n ≡ 8388608 + (a + 1))
          go (inl e) = inr e
          go (inr g) = inl (low n a l g)

  -- y - 2 ^ 23
  near-is : (n : ℕ) → num y ≡ 8388608 + n → near-whole x ≡ of_int binary32 (pos n)
  unfolding of_int
  near-is n e =
      sub_is binary32 y big y-within.plain-is tt (le_trans (le_of_eq (ap (λ (z : ℕ). 1 * 8388608 * z) y-den)) (le_trans (base n) (le_of_eq (sym (mul-one (num y) ∙ e)))))
      ∙ ap (λ (z : ℕ). round binary32 false (num y * 1 - 1 * 8388608 * z) (z * 1)) y-den
      ∙ ap (λ (z : ℕ). round binary32 false z 1) (ap (λ (z : ℕ). z * 1 - 8388608) e ∙ off n)
    where
      base : (n : ℕ) → 8388608 ≤ 8388608 + n
      base n = omega arith

      off : (n : ℕ) → (8388608 + n) * 1 - 8388608 ≡ n
      off n = omega arith

  -- ---- which of the two
  cap : (a : ℕ) → a + 1 ≤ 8388608 → (a ≤ 16777216) × (a + 1 ≤ 16777216)
  cap a g = (omega arith, omega arith)

  whole : to_unsigned 64 x ≡ w
  whole = whole_is 64 x (lit≤ tt) (widen 1048577 16777216 x (lit≤ tt) h)

  -- w + 1 less 1
  one_less : sub binary32 (of_int binary32 (pos (w + 1))) one ≡ of_int binary32 (pos w)
  unfolding of_int
  one_less =
      let t = round binary32 false (w + 1) 1 in
      let v : HasValue t false (w + 1) 1 = round_whole binary32 false (w + 1) (cap w small).1 in
      let c : num t * 1 ≡ (w + 1) * den t = value-cross t (w + 1) 1 v in
      sub_is binary32 t one (value-plain t (w + 1) 1 v) tt (le_trans (mul-le-mul_right (den t) (up w)) (le_of_eq (sym c)))
      ∙ round_same binary32 false (num t * 1 - 1 * 1 * den t) (den t * 1) w 1 (mul-pos (den_pos t) (lit< tt)) (lit< tt) (less (num t) w (den t) (w * den t) (c ∙ add-mul w 1 (den t)) refl)
    where
      up : (a : ℕ) → 1 * 1 ≤ a + 1
      up a = omega arith

      less : (n a d p : ℕ) → n * 1 ≡ p + 1 * d → p ≡ a * d → (n * 1 - 1 * 1 * d) * 1 ≡ a * (d * 1)
      less n a d p e f = left n d p e ∙ f ∙ ap (λ (z : ℕ). a * z) (sym (mul-one d))
        where
          left : (n d p : ℕ) → n * 1 ≡ p + 1 * d → (n * 1 - 1 * 1 * d) * 1 ≡ p
          left n d p e = omega arith

  -- LAW: one less than the near whole number where that is above x, and else that number itself, is the whole part
  pub floor-less : lt x (near-whole x) ≡ true → sub binary32 (near-whole x) one ≡ of_int binary32 (pos (to_unsigned 64 x))
  floor-less l = go y-either
    where
      go : (num y ≡ 8388608 + w) ⊎ (num y ≡ 8388608 + (w + 1)) → sub binary32 (near-whole x) one ≡ of_int binary32 (pos (to_unsigned 64 x))
      go (inl e) =
          let n = of_int binary32 (pos w) in
          let v : HasValue n false w 1 = int-value w (cap w small).0 in
          let k : num x * den n < num n * den x = lt→cross x n h.plain-is (value-plain n w 1 v) (subst T (sym (ap (λ (z : Float). lt x z) (sym (near-is w e)) ∙ l)) tt) in
          absurd (not-le_of_lt k (transfer (num n) (num x) (den n) (den x) w (num x) 1 (den x) (lit< tt) (den_pos x) (value-cross n w 1 v) refl (le_trans lowest (le_of_eq (sym (mul-one (num x)))))))
      go (inr e) = ap (λ (z : Float). sub binary32 z one) (near-is (w + 1) e) ∙ one_less ∙ ap (λ (z : ℕ). of_int binary32 (pos z)) (sym whole)

  pub floor-near : lt x (near-whole x) ≡ false → near-whole x ≡ of_int binary32 (pos (to_unsigned 64 x))
  floor-near l = go y-either
    where
      go : (num y ≡ 8388608 + w) ⊎ (num y ≡ 8388608 + (w + 1)) → near-whole x ≡ of_int binary32 (pos (to_unsigned 64 x))
      go (inl e) = near-is w e ∙ ap (λ (z : ℕ). of_int binary32 (pos z)) (sym whole)
      go (inr e) =
          let n = of_int binary32 (pos (w + 1)) in
          let v : HasValue n false (w + 1) 1 = int-value (w + 1) (cap w small).1 in
          let k : T (lt x n) = cross→lt x n h.plain-is (value-plain n (w + 1) 1 v) (shift (num x) (den x) (num n) (den n) (w + 1) (den_pos n) (value-cross n (w + 1) 1 v) strictly) in
          absurd (subst T (ap (λ (z : Float). lt x z) (sym (near-is (w + 1) e)) ∙ l) k)
        where
          strictly : num x < (w + 1) * den x
          strictly = lt_of_lt_of_le (lt-div-mul-add (den_pos x)) (le_of_eq (sym (add-mul w 1 (den x) ∙ ap (λ (z : ℕ). w * den x + z) (one-mul (den x)))))

          shift : (X dx N dn a : ℕ) → 0 < dn → N * 1 ≡ a * dn → X < a * dx → X * dn < N * dx
          shift X dx N dn a P e g = lt_of_lt_of_le (mul-lt-mul_of_pos_right g P) (le_of_eq (mul_right_comm a dx dn ∙ ap (λ (z : ℕ). z * dx) (sym e ∙ mul-one N)))
