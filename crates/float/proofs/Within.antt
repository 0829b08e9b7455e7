-- Floats that are finite and have no sign (so +0 and no -0), by the fraction `num` / `den` that each is: what the operations do to bounds.
-- Assumes nothing.
use mathlib.Core.Path.{◌≡◌, refl, sym, ap, ◌∙◌, subst}
use Prim.Native.Nat.{ℕ, zero, suc, ◌+◌, ◌-◌, ◌*◌, ◌%◌, ◌^◌, ◌≤◌, ◌<◌}
use native.Mathlib.Nat.{le_trans, le_of_eq, le_of_lt, lt_of_lt_of_le, not-le_of_lt, add-mul, add-le-add, mul_comm, mul_assoc, mul_left_comm, mul_right_comm, mul-le-mul_right, mul-le-mul, mul-pos, mul-mul-mul_comm, zero-lt-suc, mul-one, zero-mul, lt_of_not-le, le_of_suc-le-suc, add_comm, mul-lt-mul_of_pos_right, lt_of_le_of_lt, sub-add_cancel}
use native.Mathlib.Omega.{arith}
use mathlib.Core.Bool.{Bool, true, false, not, ◌&&◌, ◌||◌, cond, true≢false}
use lib.IntN.{ℤ, pos, negsuc}
use lib.Dec.{T, not_T, ltb, leb, eqb, eqb→eq, ltb→lt, lt→ltb, leb→le}
use lib.Pow.{pow_pos, pow-add, pow_mono, pow-lt, shl_lt}
use lib.Ieee.{Float, nan, inf, fin, Format, prec, emax, low, up, down, units, odd, round, sum, add, mul, sub, div, le, lt, fits}
use lib.Ieee.Fits.{down_pos, reach}
use lib.Ieee.Bits.{cond_no}
use lib.Ieee.Exact.{HasValue, round_exact}
use lib.Ieee.Order.{transfer, le_of_values, round_mono}
use lib.Ieee.Positive.{num, den, den_pos, through}
use Rattle.float.specs.inner.Range.{plain, Within}

-- ---- a float with no sign is a size: what holds of every size holds of it
pub on-plain : (P : Float → Type 0) → ((m : ℕ) (e : ℤ) → P (fin false m e)) → (x : Float) → T (plain x) → P x
on-plain P h (fin false m e) p = h m e
on-plain P h (fin true m e) p = absurd p
on-plain P h (inf s) p = absurd p
on-plain P h nan p = absurd p

pub on-plains : (P : Float → Float → Type 0) → ((m : ℕ) (e : ℤ) (n : ℕ) (d : ℤ) → P (fin false m e) (fin false n d)) → (x y : Float) → T (plain x) → T (plain y) → P x y
on-plains P h x y p q = on-plain (λ (z : Float). P z y) (λ (m : ℕ) (e : ℤ). on-plain (λ (z : Float). P (fin false m e) z) (λ (n : ℕ) (d : ℤ). h m e n d) y q) x p

-- ---- values
pub plain_value : (x : Float) → T (plain x) → HasValue x false (num x) (den x)
plain_value x p = on-plain (λ (z : Float). HasValue z false (num z) (den z)) (λ (m : ℕ) (e : ℤ). (refl, refl)) x p

pub value-plain : (x : Float) (a c : ℕ) → HasValue x false a c → T (plain x)
value-plain nan a c h = absurd h
value-plain (inf s) a c h = absurd h
value-plain (fin true m e) a c h = absurd (true≢false h.0)
value-plain (fin false m e) a c h = tt

pub value-cross : (x : Float) (a c : ℕ) → HasValue x false a c → num x * c ≡ a * den x
value-cross nan a c h = absurd h
value-cross (inf s) a c h = absurd h
value-cross (fin s m e) a c h = h.1

pub value-within : (x : Float) (b d a c : ℕ) → 0 < d → 0 < c → HasValue x false b d → b * c ≤ a * d → Within a c x
value-within x b d a c D C v h = record { plain-is = value-plain x b d v; upper = transfer (num x) a (den x) c b a d c D C (value-cross x b d v) refl h }

-- ---- the order: that of the fractions
size-le : (a b : ℕ) → T (ltb a b || (eqb a b && true)) → a ≤ b
size-le a b t = go (ltb a b) (eqb a b) (ltb→lt a b) (eqb→eq a b) t
  where
    go : (l e : Bool) → (T l → a < b) → (T e → a ≡ b) → T (l || (e && true)) → a ≤ b
    go true e f g t = le_of_lt (f tt)
    go false true f g t = le_of_eq (g tt)
    go false false f g t = absurd t

pub le→cross : (x y : Float) → T (plain x) → T (plain y) → T (le x y) → num x * den y ≤ num y * den x
unfolding le
le→cross x y p q = on-plains (λ (v w : Float). T (le v w) → num v * den w ≤ num w * den v) (λ (m : ℕ) (e : ℤ) (n : ℕ) (d : ℤ). size-le (m * up e * down d) (n * up d * down e)) x y p q

pub lt→cross : (x y : Float) → T (plain x) → T (plain y) → T (lt x y) → num x * den y < num y * den x
unfolding lt
lt→cross x y p q = on-plains (λ (v w : Float). T (lt v w) → num v * den w < num w * den v) (λ (m : ℕ) (e : ℤ) (n : ℕ) (d : ℤ). ltb→lt (m * up e * down d) (n * up d * down e)) x y p q

pub cross→lt : (x y : Float) → T (plain x) → T (plain y) → num x * den y < num y * den x → T (lt x y)
unfolding lt
cross→lt x y p q = on-plains (λ (v w : Float). num v * den w < num w * den v → T (lt v w)) (λ (m : ℕ) (e : ℤ) (n : ℕ) (d : ℤ). lt→ltb (m * up e * down d) (n * up d * down e)) x y p q

pub cross→le : (x y : Float) → T (plain x) → T (plain y) → num x * den y ≤ num y * den x → T (le x y)
cross→le x y p q h = le_of_values x y (num x) (den x) (num y) (den y) (den_pos x) (den_pos y) (plain_value x p) (plain_value y q) h

-- ---- what `round f false` gives is no NaN and has no sign
abbrev clear : Float → Bool
clear nan = false
clear (inf s) = not s
clear (fin s m e) = not s

units-clear : (f : Format) (q k : ℕ) → T (clear (units f false q k))
unfolding units odd
units-clear f q k = go (ltb (q * 2 ^ k) (2 ^ (low f + suc (emax f)))) q
  where
    go : (b : Bool) (r : ℕ) → T (clear (cond b (odd (suc (prec f)) false r k (low f)) (inf false)))
    go true zero = tt
    go true (suc r) = tt
    go false r = tt

round-clear : (f : Format) (a c : ℕ) → T (clear (round f false a c))
unfolding round
round-clear f a c = units-clear f _ _

-- what has no sign, is no NaN, and is at most a finite value, is finite
clear-plain : (x y : Float) → T (clear x) → T (plain y) → T (le x y) → T (plain x)
unfolding le
clear-plain nan y p q h = absurd p
clear-plain (inf true) y p q h = absurd p
clear-plain (inf false) nan p q h = absurd q
clear-plain (inf false) (inf t) p q h = absurd q
clear-plain (inf false) (fin t n d) p q h = absurd h
clear-plain (fin true m e) y p q h = absurd p
clear-plain (fin false m e) y p q h = tt

-- ---- a bound that the format holds goes through the rounding
-- the format f holds a / c: for numerals `unfold round in (refl, refl)` shows it
abbrev pub Holds : Format → ℕ → ℕ → Type 0
Holds f a c = HasValue (round f false a c) false a c

pub round-within : (f : Format) (n d a c : ℕ) → 0 < d → 0 < c → Holds f a c → n * c ≤ a * d → Within a c (round f false n d)
round-within f n d a c D C v h =
    let x = round f false n d in
    let y = round f false a c in
    let l : T (le x y) = round_mono f n d a c D C h in
    let q : T (plain y) = value-plain y a c v in
    let p : T (plain x) = clear-plain x y (round-clear f n d) q l in
    record {
      plain-is = p;
      upper = transfer (num x) a (den x) c (num x) (num y) (den x) (den y) (den_pos x) (den_pos y) refl (sym (value-cross y a c v)) (le→cross x y p q l);
    }

-- ---- each operation is one rounding
pub add_is : (f : Format) (x y : Float) → T (plain x) → T (plain y) → add f x y ≡ round f false (num x * den y + num y * den x) (den x * den y)
unfolding add sum
add_is f x y p q = on-plains (λ (v w : Float). add f v w ≡ round f false (num v * den w + num w * den v) (den v * den w)) (λ (m : ℕ) (e : ℤ) (n : ℕ) (d : ℤ). refl) x y p q

pub mul_is : (f : Format) (x y : Float) → T (plain x) → T (plain y) → mul f x y ≡ round f false (num x * num y) (den x * den y)
unfolding mul
mul_is f x y p q = on-plains (λ (v w : Float). mul f v w ≡ round f false (num v * num w) (den v * den w)) (λ (m : ℕ) (e : ℤ) (n : ℕ) (d : ℤ). refl) x y p q

-- by a divisor that is not 0
factor-not-zero : (m u : ℕ) → 0 < m * u → T (eqb m 0) → ⊥
factor-not-zero m u h t = not-le_of_lt h (le_of_eq (ap (λ (k : ℕ). k * u) (eqb→eq m 0 t) ∙ zero-mul u))

pub div_is : (f : Format) (x y : Float) → T (plain x) → T (plain y) → 0 < num y → div f x y ≡ round f false (num x * den y) (num y * den x)
unfolding div
div_is f x y p q =
    on-plains (λ (v w : Float). 0 < num w → div f v w ≡ round f false (num v * den w) (num w * den v))
    (λ (m : ℕ) (e : ℤ) (n : ℕ) (d : ℤ) (h : 0 < n * up d). cond_no (eqb n 0) (cond (eqb m 0) nan (inf false)) (round f false (m * up e * down d) (n * up d * down e)) (not_T (eqb n 0) (factor-not-zero n (up d) h)))
    x y p q

-- x - y for y ≤ x: the sign is clear, of an exact zero too
difference : (f : Format) (a b c : ℕ) → b ≤ a → sum f false a true b c ≡ round f false (a - b) c
unfolding sum
difference f a b c h = cond_no (ltb a b) (round f true (b - a) c) (round f false (a - b) c) (not_T (ltb a b) (λ (t : T (ltb a b)). not-le_of_lt (ltb→lt a b t) h))

pub sub_is : (f : Format) (x y : Float) → T (plain x) → T (plain y) → num y * den x ≤ num x * den y → sub f x y ≡ round f false (num x * den y - num y * den x) (den x * den y)
unfolding sub
sub_is f x y p q =
    on-plains (λ (v w : Float). num w * den v ≤ num v * den w → sub f v w ≡ round f false (num v * den w - num w * den v) (den v * den w))
    (λ (m : ℕ) (e : ℤ) (n : ℕ) (d : ℤ). difference f (m * up e * down d) (n * up d * down e) (down e * down d))
    x y p q

-- ---- bounds through the operations: p / q is a bound that the format holds
pub fractions-add : (X Y dx dy a b c d : ℕ) → X * c ≤ a * dx → Y * d ≤ b * dy → (X * dy + Y * dx) * (c * d) ≤ (a * d + b * c) * (dx * dy)
fractions-add X Y dx dy a b c d h k =
    let l : X * dy * (c * d) ≤ a * d * (dx * dy) = simp (mul_assoc, mul_comm, mul_left_comm) (simp (mul_assoc, mul_comm, mul_left_comm) at (mul-le-mul_right (dy * d) h)) in
    let r : Y * dx * (c * d) ≤ b * c * (dx * dy) = simp (mul_assoc, mul_comm, mul_left_comm) (simp (mul_assoc, mul_comm, mul_left_comm) at (mul-le-mul_right (dx * c) k)) in
    le_trans (le_of_eq (add-mul (X * dy) (Y * dx) (c * d))) (le_trans (add-le-add l r) (le_of_eq (sym (add-mul (a * d) (b * c) (dx * dy)))))

pub add-within : (f : Format) (x y : Float) (a c b d p q : ℕ) → 0 < c → 0 < d → 0 < q → Holds f p q → Within a c x → Within b d y → (a * d + b * c) * q ≤ p * (c * d) → Within p q (add f x y)
add-within f x y a c b d p q C D Q v X Y h =
    subst (λ (z : Float). Within p q z) (sym (add_is f x y X.plain-is Y.plain-is))
    (round-within f (num x * den y + num y * den x) (den x * den y) p q (mul-pos (den_pos x) (den_pos y)) Q v
    (through (num x * den y + num y * den x) (a * d + b * c) p (den x * den y) (c * d) q (mul-pos C D)
    (fractions-add (num x) (num y) (den x) (den y) a b c d X.upper Y.upper) h))

pub mul-within : (f : Format) (x y : Float) (a c b d p q : ℕ) → 0 < c → 0 < d → 0 < q → Holds f p q → Within a c x → Within b d y → a * b * q ≤ p * (c * d) → Within p q (mul f x y)
mul-within f x y a c b d p q C D Q v X Y h =
    subst (λ (z : Float). Within p q z) (sym (mul_is f x y X.plain-is Y.plain-is))
    (round-within f (num x * num y) (den x * den y) p q (mul-pos (den_pos x) (den_pos y)) Q v
    (through (num x * num y) (a * b) p (den x * den y) (c * d) q (mul-pos C D)
    (le_trans (le_of_eq (mul-mul-mul_comm (num x) (num y) c d)) (le_trans (mul-le-mul X.upper Y.upper) (le_of_eq (mul-mul-mul_comm a (den x) b (den y))))) h))

-- x / y for a y that is b / d at least
pub div-within : (f : Format) (x y : Float) (a c b d p q : ℕ) → 0 < c → 0 < b → 0 < q → Holds f p q → Within a c x → T (plain y) → 0 < num y → b * den y ≤ num y * d → a * d * q ≤ p * (c * b) → Within p q (div f x y)
div-within f x y a c b d p q C B Q v X Y N L h =
    subst (λ (z : Float). Within p q z) (sym (div_is f x y X.plain-is Y N))
    (round-within f (num x * den y) (num y * den x) p q (mul-pos N (den_pos x)) Q v
    (through (num x * den y) (a * d) p (num y * den x) (c * b) q (mul-pos C B)
    (le_trans (le_of_eq (mul-mul-mul_comm (num x) (den y) c b)) (le_trans (mul-le-mul X.upper (le_trans (le_of_eq (mul_comm (den y) b)) L)) (le_of_eq (reordered a (den x) (num y) d)))) h))
  where
    reordered : (a x n d : ℕ) → a * x * (n * d) ≡ a * d * (n * x)
    reordered a x n d = simp (mul_assoc, mul_comm, mul_left_comm)

-- x - y for y ≤ x
pub sub_within : (f : Format) (x y : Float) (a c p q : ℕ) → 0 < c → 0 < q → Holds f p q → Within a c x → T (plain y) → num y * den x ≤ num x * den y → a * q ≤ p * c → Within p q (sub f x y)
sub_within f x y a c p q C Q v X Y L h =
    subst (λ (z : Float). Within p q z) (sym (sub_is f x y X.plain-is Y L))
    (round-within f (num x * den y - num y * den x) (den x * den y) p q (mul-pos (den_pos x) (den_pos y)) Q v
    (through (num x * den y - num y * den x) a p (den x * den y) c q C
    (le_trans (mul-le-mul_right c (less (num x * den y) (num y * den x))) (le_trans (le_of_eq (mul_right_comm (num x) (den y) c)) (le_trans (mul-le-mul_right (den y) X.upper) (le_of_eq (mul_assoc a (den x) (den y)))))) h))
  where
    less : (a b : ℕ) → a - b ≤ a
    less a b = omega arith

-- ---- a value that the format holds
pub pow_le_back : (i j : ℕ) → 2 ^ i ≤ 2 ^ j → i ≤ j
pow_le_back i j h = le_of_suc-le-suc (lt_of_not-le (λ (g : suc j ≤ i). not-le_of_lt (pow-lt g) h))

-- m * 2 ^ e with at most prec digits
pub holds_at : (f : Format) (m : ℕ) (e : ℤ) → m < 2 ^ prec f → down e ≤ 2 ^ low f → m * up e < 2 ^ suc (emax f) * down e → Holds f (m * up e) (down e)
holds_at f m (pos k) small l u =
    round_exact f false (m * 2 ^ k) 1 m (k + low f) (zero-lt-suc 0) small
    (lt_of_le_of_lt (le_of_eq (sym e1))
    (lt_of_lt_of_le (mul-lt-mul_of_pos_right (lt_of_lt_of_le u (le_of_eq (mul-one (2 ^ suc (emax f))))) (pow_pos (low f)))
    (le_of_eq (sym (pow-add 2 (suc (emax f)) (low f)) ∙ ap (λ (z : ℕ). 2 ^ z) (add_comm (suc (emax f)) (low f))))))
    (e1 ∙ sym (mul-one (m * 2 ^ (k + low f))))
  where
    e1 : m * 2 ^ k * 2 ^ low f ≡ m * 2 ^ (k + low f)
    e1 = mul_assoc m (2 ^ k) (2 ^ low f) ∙ ap (λ (z : ℕ). m * z) (sym (pow-add 2 k (low f)))
holds_at f m (negsuc k) small l u =
    let K : suc k ≤ low f = pow_le_back (suc k) (low f) l in
    let j = low f - suc k in
    round_exact f false (m * 1) (2 ^ suc k) m j (pow_pos (suc k)) small
    (lt_of_lt_of_le (shl_lt (prec f) j small) (pow_mono (room (prec f) (suc (emax f)) (low f) (suc k) (reach f))))
    (ap (λ (z : ℕ). z * 2 ^ low f) (mul-one m) ∙ ap (λ (z : ℕ). m * 2 ^ z) (sym (sub-add_cancel K)) ∙ ap (λ (z : ℕ). m * z) (pow-add 2 j (suc k)) ∙ sym (mul_assoc m (2 ^ j) (2 ^ suc k)))
  where
    room : (p s l k : ℕ) → p ≤ s → p + (l - k) ≤ l + s
    room p s l k h = omega arith

-- ---- the four tests of `fits`, as facts
pub record Fitting (f : Format) (m : ℕ) (e : ℤ) : Type 0 where
  pub odd_is : m % 2 ≡ 1
  pub short : m < 2 ^ prec f
  pub fine : down e ≤ 2 ^ low f
  pub under : m * up e < 2 ^ suc (emax f) * down e

pub fitting : (f : Format) (s : Bool) (m : ℕ) (e : ℤ) → T (fits f (fin s (suc m) e)) → Fitting f (suc m) e
unfolding fits
fitting f s m e t =
    go (eqb (suc m % 2) 1) (ltb (suc m) (2 ^ prec f)) (leb (down e) (2 ^ low f)) (ltb (suc m * up e) (2 ^ suc (emax f) * down e))
    (eqb→eq (suc m % 2) 1) (ltb→lt (suc m) (2 ^ prec f)) (leb→le (down e) (2 ^ low f)) (ltb→lt (suc m * up e) (2 ^ suc (emax f) * down e)) t
  where
    go : (o s l u : Bool) → (T o → suc m % 2 ≡ 1) → (T s → suc m < 2 ^ prec f) → (T l → down e ≤ 2 ^ low f) → (T u → suc m * up e < 2 ^ suc (emax f) * down e) → T (o && s && l && u) → Fitting f (suc m) e
    go true true true true g h j k t = record { odd_is = g tt; short = h tt; fine = j tt; under = k tt }
    go true true true false g h j k t = absurd t
    go true true false u g h j k t = absurd t
    go true false l u g h j k t = absurd t
    go false s l u g h j k t = absurd t

-- a value of the format is rounded to itself
pub fits-holds : (f : Format) (x : Float) → T (fits f x) → T (plain x) → Holds f (num x) (den x)
unfolding fits
fits-holds f nan t p = absurd p
fits-holds f (inf s) t p = absurd p
fits-holds f (fin true m e) t p = absurd p
fits-holds f (fin false zero e) t p =
    round_exact f false (zero * up e) (down e) zero 0 (down_pos e) (pow_pos (prec f)) (lt_of_le_of_lt (le_of_eq (zero-mul (2 ^ 0))) (pow_pos (low f + suc (emax f))))
    (ap (λ (z : ℕ). z * 2 ^ low f) (zero-mul (up e)) ∙ zero-mul (2 ^ low f) ∙ sym (zero-mul (down e)) ∙ ap (λ (z : ℕ). z * down e) (sym (zero-mul (2 ^ 0))))
fits-holds f (fin false (suc m) e) t p =
    let F = fitting f false m e t in
    holds_at f (suc m) e F.short F.fine F.under
