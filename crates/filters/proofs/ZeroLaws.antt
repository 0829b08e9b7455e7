-- Zeros added to a float. +0 changes nothing but the sign of -0, and of two floats that are not 0 the sum is never -0.
use Rattle.std.proofs.Common.{◌≡◌, ℕ, zero, suc, ◌+◌, ◌-◌, ◌*◌, ◌<◌, ◌≤◌, Bool, true, false, cond, not, T, ltb, ℤ, pos, sym, refl, ap, ◌∙◌, subst, le_trans, le_of_eq, lt_of_lt_of_le, le_of_lt, lt_irrefl, mul-le-mul_right, zero-lt-suc, mul_assoc, mul_comm, add_comm, mul-pos, one-mul, zero-add, zero-mul, mul-one, le-add_left, arith, lit<, ltb→lt, lt→ltb, nltb→le}
use native.Mathlib.Nat.{sub-zero}
use Rattle.std.specs.Float.{is_sign_negative}
use lib.Ieee.{Float, nan, inf, fin, Format, binary32, up, down, round, sum, add, sub, neg, le, eq, fits}
use lib.Ieee.Fits.{up_pos, down_pos, add-fits, neg-fits}
use lib.Ieee.Bits.{is_true}
use lib.Ieee.Order.{round_mono}
use lib.Ieee.Positive.{num, above, above_of_le}
use lib.Ieee.Scale.{round_same}
use Rattle.float.proofs.Within.{sub_is}
use Rattle.float.proofs.Unique.{cross-unique, round-self}
use Rattle.float.proofs.Bounds.{round-neg, sub-positive}
use Rattle.float.proofs.Identities.{rounds-to-itself}
use Rattle.float.proofs.Operands.{true-is-false, level-zero, level-some}
use Rattle.float.specs.F32.{◌⊕◌, ◌⊖◌, quotient}
use Rattle.filters.specs.inner.Quiet.{is_plus_zero}

-- the two zeros
abbrev pub signed_zero : Bool → Float
signed_zero s = fin s 0 (pos 0)

-- ---- a sum does not depend on the order
unlike-comm : (f : Format) (a b c : ℕ) → sum f true a false b c ≡ sum f false b true a c
unfolding sum
unlike-comm f a b c = apart (ltb a b) (ltb b a) (ltb→lt a b) (ltb→lt b a) (nltb→le a b) (nltb→le b a)
  where
    never : (a b : ℕ) → a < b → b < a → ⊥
    never a b h k = omega arith

    level : (a b : ℕ) → a ≤ b → b ≤ a → a - b ≡ b - a
    level a b h k = omega arith

    apart : (p q : Bool) → (T p → a < b) → (T q → b < a) → (T (not p) → b ≤ a) → (T (not q) → a ≤ b) → cond p (round f false (b - a) c) (round f q (a - b) c) ≡ cond q (round f true (a - b) c) (round f false (b - a) c)
    apart true true g h i j = absurd (never a b (g tt) (h tt))
    apart true false g h i j = refl
    apart false true g h i j = refl
    apart false false g h i j = ap (λ (n : ℕ). round f false n c) (level a b (j tt) (i tt))

sum_comm : (f : Format) (s : Bool) (a : ℕ) (t : Bool) (b c : ℕ) → sum f s a t b c ≡ sum f t b s a c
unfolding sum
sum_comm f true a true b c = ap (λ (n : ℕ). round f true n c) (add_comm a b)
sum_comm f false a false b c = ap (λ (n : ℕ). round f false n c) (add_comm a b)
sum_comm f true a false b c = unlike-comm f a b c
sum_comm f false a true b c = sym (unlike-comm f b a c)

finite-comm : (f : Format) (s : Bool) (m : ℕ) (e : ℤ) (t : Bool) (n : ℕ) (d : ℤ) → add f (fin s m e) (fin t n d) ≡ add f (fin t n d) (fin s m e)
unfolding add
finite-comm f s m e t n d =
    sum_comm f s (m * up e * down d) t (n * up d * down e) (down e * down d)
    ∙ ap (λ (c : ℕ). sum f t (n * up d * down e) s (m * up e * down d) c) (mul_comm (down e) (down d))

-- ---- a zero added to a float that is not 0
-- a sum with nothing
nothing : (s t : Bool) (a c : ℕ) → 0 < a → sum binary32 s 0 t a c ≡ round binary32 t a c
unfolding sum
nothing true true a c h = ap (λ (n : ℕ). round binary32 true n c) (zero-add a)
nothing false false a c h = ap (λ (n : ℕ). round binary32 false n c) (zero-add a)
nothing true false a c h = rw (is_true (ltb 0 a) (lt→ltb 0 a h)) (ap (λ (n : ℕ). round binary32 false n c) (sub-zero a))
nothing false true a c h = rw (is_true (ltb 0 a) (lt→ltb 0 a h)) (ap (λ (n : ℕ). round binary32 true n c) (sub-zero a))

zero-first : (s t : Bool) (n : ℕ) (d : ℤ) → T (fits binary32 (fin t (suc n) d)) → add binary32 (signed_zero s) (fin t (suc n) d) ≡ fin t (suc n) d
unfolding add
zero-first s t n d h =
    ap (λ (a : ℕ). sum binary32 s a t (suc n * up d * 1) (1 * down d)) (zero-mul (down d))
    ∙ ap (λ (b : ℕ). sum binary32 s 0 t b (1 * down d)) (mul-one (suc n * up d))
    ∙ ap (λ (c : ℕ). sum binary32 s 0 t (suc n * up d) c) (one-mul (down d))
    ∙ nothing s t (suc n * up d) (down d) (mul-pos (zero-lt-suc n) (up_pos d))
    ∙ rounds-to-itself (suc n) d t h

zero-last : (s t : Bool) (n : ℕ) (d : ℤ) → T (fits binary32 (fin t (suc n) d)) → add binary32 (fin t (suc n) d) (signed_zero s) ≡ fin t (suc n) d
zero-last s t n d h = finite-comm binary32 t (suc n) d s 0 (pos 0) ∙ zero-first s t n d h

-- a zero is written in one way
zero_is : (s : Bool) (e : ℤ) → T (fits binary32 (fin s zero e)) → fin s zero e ≡ signed_zero s
zero_is s e h =
    cross-unique binary32 s 0 e 0 (pos 0) h (unfold fits in tt) (mul-one (0 * up e) ∙ zero-mul (up e) ∙ sym (zero-mul (down e)))

-- +0 and a zero
two-zeros : (t : Bool) → add binary32 (signed_zero false) (signed_zero t) ≡ signed_zero false
unfolding add sum round
two-zeros true = refl
two-zeros false = refl

zero-last-zero : (t : Bool) → add binary32 (signed_zero t) (signed_zero false) ≡ signed_zero false
zero-last-zero t = finite-comm binary32 t 0 (pos 0) false 0 (pos 0) ∙ two-zeros t

-- ---- which sums are -0
abbrev is_minus_zero : Float → Bool
is_minus_zero nan = false
is_minus_zero (inf s) = false
is_minus_zero (fin false m e) = false
is_minus_zero (fin true zero e) = true
is_minus_zero (fin true (suc m) e) = false

-- +0 and a float that is not -0
plus-zero : (x : Float) → T (fits binary32 x) → T (not (is_minus_zero x)) → add binary32 (signed_zero false) x ≡ x
unfolding add
plus-zero nan h k = refl
plus-zero (inf s) h k = refl
plus-zero (fin false zero e) h k = subst (λ (x : Float). add binary32 (signed_zero false) x ≡ x) (sym (zero_is false e h)) (two-zeros false)
plus-zero (fin true zero e) h k = absurd k
plus-zero (fin t (suc n) d) h k = zero-first false t n d h

-- not 0
abbrev not_zero : Float → Bool
not_zero nan = true
not_zero (inf s) = true
not_zero (fin s zero e) = false
not_zero (fin s (suc m) e) = true

size-some : (x : Float) → 0 < num x → T (not_zero x)
size-some nan h = tt
size-some (inf s) h = tt
size-some (fin s zero e) h = absurd (lt_irrefl 0 (lt_of_lt_of_le h (le_of_eq (zero-mul (up e)))))
size-some (fin s (suc m) e) h = tt

above-some : (x : Float) → T (above x) → T (not_zero x)
above-some nan h = tt
above-some (inf s) h = tt
above-some (fin true m e) h = absurd h
above-some (fin false zero e) h = absurd h
above-some (fin false (suc m) e) h = tt

some-no : (x : Float) → T (not_zero x) → T (not (is_minus_zero x))
some-no nan h = tt
some-no (inf s) h = tt
some-no (fin s zero e) h = absurd h
some-no (fin true (suc m) e) h = tt
some-no (fin false (suc m) e) h = tt

some-neg : (x : Float) → T (not_zero x) → T (not_zero (neg x))
unfolding neg
some-neg nan h = tt
some-neg (inf s) h = tt
some-neg (fin s zero e) h = absurd h
some-neg (fin s (suc m) e) h = tt

-- either sign
round-no : (s : Bool) (a c : ℕ) → T (not_zero (round binary32 false a c)) → T (not (is_minus_zero (round binary32 s a c)))
round-no false a c h = some-no (round binary32 false a c) h
round-no true a c h = rw (round-neg binary32 a c) (some-no (neg (round binary32 false a c)) (some-neg (round binary32 false a c) h))

module _ (m : ℕ) (e : ℤ) (n : ℕ) (d : ℤ) (M : T (fits binary32 (fin false (suc m) e))) (N : T (fits binary32 (fin false (suc n) d))) where
  abbrev X : Float
  X = fin false (suc m) e

  abbrev Y : Float
  Y = fin false (suc n) d

  abbrev a : ℕ
  a = suc m * up e * down d

  abbrev b : ℕ
  b = suc n * up d * down e

  abbrev c : ℕ
  c = down e * down d

  -- of one sign
  like : T (not_zero (round binary32 false (a + b) c))
  like =
      above-some (round binary32 false (a + b) c)
      (above_of_le Y (round binary32 false (a + b) c) (lt→ltb 0 (suc n) (zero-lt-suc n))
      (subst (λ (z : Float). T (le z (round binary32 false (a + b) c))) (round-self binary32 Y N tt)
      (round_mono binary32 (suc n * up d) (down d) (a + b) c (down_pos d) (mul-pos (down_pos e) (down_pos d))
      (le_trans (le_of_eq (sym (mul_assoc (suc n * up d) (down e) (down d)))) (mul-le-mul_right (down d) (le-add_left b a))))))

  -- of two signs
  more : b < a → T (not_zero (round binary32 false (a - b) c))
  more h = subst (λ (z : Float). T (not_zero z)) (sub_is binary32 X Y tt tt (le_of_lt h)) (size-some (sub binary32 X Y) (sub-positive X Y M N tt tt h))

  less : a < b → T (not_zero (round binary32 false (b - a) c))
  less h =
      subst (λ (z : ℕ). T (not_zero (round binary32 false (b - a) z))) (mul_comm (down d) (down e))
      (subst (λ (z : Float). T (not_zero z)) (sub_is binary32 Y X tt tt (le_of_lt h)) (size-some (sub binary32 Y X) (sub-positive Y X N M tt tt h)))

  level : b ≤ a → a ≤ b → T (not (is_minus_zero (round binary32 false (a - b) c)))
  level h k =
      subst (λ (z : Float). T (not (is_minus_zero z)))
      (sym (ap (λ (z : ℕ). round binary32 false z c) (none_left a b k) ∙ round_same binary32 false 0 c 0 1 (mul-pos (down_pos e) (down_pos d)) (lit< tt) (sym (zero-mul c)) ∙ round-self binary32 (signed_zero false) (unfold fits in tt) tt))
      tt
    where
      none_left : (a b : ℕ) → a ≤ b → a - b ≡ 0
      none_left a b h = omega arith

  unlike-no : T (not (is_minus_zero (sum binary32 true a false b c)))
  unfolding sum
  unlike-no = go (ltb a b) (ltb b a) (ltb→lt a b) (ltb→lt b a) (nltb→le a b) (nltb→le b a)
    where
      go : (p q : Bool) → (T p → a < b) → (T q → b < a) → (T (not p) → b ≤ a) → (T (not q) → a ≤ b) → T (not (is_minus_zero (cond p (round binary32 false (b - a) c) (round binary32 q (a - b) c))))
      go true q g h i j = round-no false (b - a) c (less (g tt))
      go false true g h i j = round-no true (a - b) c (more (h tt))
      go false false g h i j = level (i tt) (j tt)

-- of two that are not 0
sum-no : (s : Bool) (m : ℕ) (e : ℤ) (t : Bool) (n : ℕ) (d : ℤ) → T (fits binary32 (fin s (suc m) e)) → T (fits binary32 (fin t (suc n) d)) → T (not (is_minus_zero (add binary32 (fin s (suc m) e) (fin t (suc n) d))))
unfolding add sum fits
sum-no true m e true n d M N = round-no true (suc m * up e * down d + suc n * up d * down e) (down e * down d) (like m e n d M N)
sum-no false m e false n d M N = round-no false (suc m * up e * down d + suc n * up d * down e) (down e * down d) (like m e n d M N)
sum-no true m e false n d M N = unlike-no m e n d M N
sum-no false m e true n d M N = rw (finite-comm binary32 false (suc m) e true (suc n) d) (unlike-no n d m e N M)

-- ---- LAW: +0, 0 - w and z add up to z less w, if z is not -0; a +0 added to z sees to that
abbrev Less : Float → Float → Type 0
Less w z = signed_zero false ⊕ (signed_zero false ⊖ w ⊕ z) ≡ z ⊕ signed_zero false ⊖ w

less-nan : (z : Float) → Less nan z
unfolding sub add neg
less-nan z = sym (last (add binary32 z (signed_zero false)))
  where
    last : (x : Float) → add binary32 x nan ≡ nan
    last nan = refl
    last (inf s) = refl
    last (fin s m e) = refl

less-infinite : (s : Bool) (z : Float) → T (fits binary32 z) → Less (inf s) z
unfolding sub add neg
less-infinite s nan h = refl
less-infinite true (inf true) h = refl
less-infinite true (inf false) h = refl
less-infinite false (inf true) h = refl
less-infinite false (inf false) h = refl
less-infinite s (fin t zero d) h =
    sym (ap (λ (x : Float). add binary32 (add binary32 x (signed_zero false)) (inf (not s))) (zero_is t d h) ∙ ap (λ (x : Float). add binary32 x (inf (not s))) (zero-last-zero t))
less-infinite s (fin t (suc n) d) h = sym (ap (λ (x : Float). add binary32 x (inf (not s))) (zero-last false t n d h))

zeros : (s t : Bool) → add binary32 (signed_zero false) (add binary32 (signed_zero false) (signed_zero t)) ≡ add binary32 (add binary32 (signed_zero t) (signed_zero false)) (signed_zero (not s))
unfolding add sum round
zeros true true = refl
zeros true false = refl
zeros false true = refl
zeros false false = refl

less_zero : (s : Bool) (z : Float) → T (fits binary32 z) → Less (signed_zero s) z
unfolding sub neg
less_zero s z h = ap (λ (x : Float). add binary32 (signed_zero false) (add binary32 x z)) (two-zeros (not s)) ∙ go z h
  where
    go : (z : Float) → T (fits binary32 z) → add binary32 (signed_zero false) (add binary32 (signed_zero false) z) ≡ add binary32 (add binary32 z (signed_zero false)) (signed_zero (not s))
    go nan h = unfold add in refl
    go (inf t) h = unfold add in refl
    go (fin t zero d) h = subst (λ (x : Float). add binary32 (signed_zero false) (add binary32 (signed_zero false) x) ≡ add binary32 (add binary32 x (signed_zero false)) (signed_zero (not s))) (sym (zero_is t d h)) (zeros s t)
    go (fin t (suc n) d) h =
        ap (λ (x : Float). add binary32 (signed_zero false) x) (zero-first false t n d h)
        ∙ zero-first false t n d h
        ∙ sym (ap (λ (x : Float). add binary32 x (signed_zero (not s))) (zero-last false t n d h) ∙ zero-last (not s) t n d h)

less-some : (s : Bool) (m : ℕ) (e : ℤ) (z : Float) → T (fits binary32 (fin s (suc m) e)) → T (fits binary32 z) → Less (fin s (suc m) e) z
unfolding sub neg
less-some s m e z w h = ap (λ (x : Float). add binary32 (signed_zero false) (add binary32 x z)) (zero-first false (not s) m e r) ∙ go z h
  where
    v : Float
    v = fin (not s) (suc m) e

    r : T (fits binary32 v)
    r = neg-fits binary32 (fin s (suc m) e) w

    go : (z : Float) → T (fits binary32 z) → add binary32 (signed_zero false) (add binary32 v z) ≡ add binary32 (add binary32 z (signed_zero false)) v
    go nan h = unfold add in refl
    go (inf t) h = unfold add in refl
    go (fin t zero d) h =
        ap (λ (x : Float). add binary32 (signed_zero false) (add binary32 v x)) (zero_is t d h)
        ∙ ap (λ (x : Float). add binary32 (signed_zero false) x) (zero-last t (not s) m e r)
        ∙ sym (ap (λ (x : Float). add binary32 (add binary32 x (signed_zero false)) v) (zero_is t d h) ∙ ap (λ (x : Float). add binary32 x v) (zero-last-zero t))
    go (fin t (suc n) d) h =
        plus-zero (add binary32 v (fin t (suc n) d)) (add-fits binary32 v (fin t (suc n) d)) (sum-no (not s) m e t n d r h)
        ∙ finite-comm binary32 (not s) (suc m) e t (suc n) d
        ∙ sym (ap (λ (x : Float). add binary32 x v) (zero-last false t n d h))

pub less-is : (w z : Float) → T (fits binary32 w) → T (fits binary32 z) → Less w z
less-is nan z h k = less-nan z
less-is (inf s) z h k = less-infinite s z k
less-is (fin s zero e) z h k = subst (λ (w : Float). Less w z) (sym (zero_is s e h)) (less_zero s z k)
less-is (fin s (suc m) e) z h k = less-some s m e z h k

-- ---- what the tests of +0 say
pub plus-zero-is : (x : Float) → T (fits binary32 x) → T (is_plus_zero x) → x ≡ quotient 0 1
unfolding round
plus-zero-is nan h k = absurd k
plus-zero-is (inf s) h k = absurd k
plus-zero-is (fin true m e) h k = absurd k
plus-zero-is (fin false zero e) h k = zero_is false e h
plus-zero-is (fin false (suc m) e) h k = absurd k

-- of what equals 0, the sign tells
pub zero-sign : (x : Float) → eq x (signed_zero false) ≡ true → not (is_sign_negative x) ≡ is_plus_zero x
unfolding eq is_sign_negative
zero-sign nan h = true-is-false (sym h)
zero-sign (inf s) h = true-is-false (sym h)
zero-sign (fin true zero e) h = refl
zero-sign (fin false zero e) h = refl
zero-sign (fin s (suc m) e) h = true-is-false (sym h ∙ level-some s m e)

pub not-plus-zero : (x : Float) → eq x (signed_zero false) ≡ false → false ≡ is_plus_zero x
unfolding eq
not-plus-zero nan h = refl
not-plus-zero (inf s) h = refl
not-plus-zero (fin s zero e) h = true-is-false (sym (level-zero s e) ∙ h)
not-plus-zero (fin true (suc m) e) h = refl
not-plus-zero (fin false (suc m) e) h = refl
