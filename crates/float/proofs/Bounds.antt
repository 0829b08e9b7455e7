-- Bounds of a player's numbers: a ratio in [0, 1], a value between two, a whole number. Assumes nothing.
use mathlib.Core.Path.{◌≡◌, refl, sym, ap, ◌∙◌, subst}
use mathlib.Core.Logic.{◌⊎◌, inl, inr}
use Prim.Native.Nat.{ℕ, zero, suc, ◌+◌, ◌-◌, ◌*◌, ◌^◌, ◌≤◌, ◌<◌}
use native.Mathlib.Nat.{le_refl, le_trans, le_of_eq, le_of_lt, lt_of_lt_of_le, lt_of_le_of_lt, mul_comm, mul_assoc, mul_left_comm, mul_right_comm, mul-le-mul_right, mul-lt-mul_of_pos_right, lt_of_mul-lt-mul_right, mul-pos, mul-one, one-mul, zero-mul, mul-sub, sub-add_cancel, lt_of_not-le}
use native.Mathlib.Omega.{arith}
use mathlib.Core.Bool.{Bool, true, false, cond}
use lib.IntN.{pos, negsuc}
use lib.Dec.{T, ltb, leb, lt→ltb, leb→le, le→leb, lit<}
use lib.Pow.{pow_pos, pow-add}
use lib.Ieee.{Float, nan, inf, fin, Format, prec, emax, low, binary32, up, down, odd, units, round, sum, add, sub, mul, div, neg, le, of_int, fits}
use lib.Ieee.Exact.{HasValue}
use lib.Ieee.Back.{round_whole}
use lib.Ieee.Order.{round_mono}
use lib.Ieee.Positive.{num, den, den_pos, first_pos}
use Rattle.float.specs.inner.Range.{plain, Within}
use Rattle.float.proofs.Within.{Holds, value-within, add-within, mul-within, div-within, sub_within, sub_is, le→cross, fits-holds, fitting, pow_le_back}
use Rattle.float.specs.inner.Range.{AtMost}
use Rattle.float.specs.Lerp.{lerp}

pub up-to-self : (x : Float) → T (plain x) → AtMost x x
up-to-self x p = record { plain-is = p; upper = le_refl (num x * den x) }

-- ---- which of two values is the larger
pub le-or-lt : (a b : ℕ) → (a ≤ b) ⊎ (b < a)
le-or-lt a b = go (leb a b) (leb→le a b) (λ (h : leb a b ≡ false). lt_of_not-le (λ (g : a ≤ b). subst T h (le→leb a b g))) refl
  where
    go : (t : Bool) → (T t → a ≤ b) → (leb a b ≡ false → b < a) → leb a b ≡ t → (a ≤ b) ⊎ (b < a)
    go true h k e = inl (h tt)
    go false h k e = inr (k e)

-- ---- the sign goes through
odd-neg : (d : ℕ) (q k l : ℕ) → odd d true q k l ≡ neg (odd d false q k l)
unfolding odd neg
odd-neg d zero k l = refl
odd-neg d (suc q) k l = refl

units-neg : (f : Format) (q k : ℕ) → units f true q k ≡ neg (units f false q k)
unfolding units neg
units-neg f q k = go (ltb (q * 2 ^ k) (2 ^ (low f + suc (emax f))))
  where
    go : (b : Bool) → cond b (odd (suc (prec f)) true q k (low f)) (inf true) ≡ neg (cond b (odd (suc (prec f)) false q k (low f)) (inf false))
    go true = odd-neg (suc (prec f)) q k (low f)
    go false = refl

pub round-neg : (f : Format) (a c : ℕ) → round f true a c ≡ neg (round f false a c)
unfolding round
round-neg f a c = units-neg f _ _

-- x - y for x < y is -(y - x)
cond-neg : (f : Format) (a b c : ℕ) → a < b → sum f false a true b c ≡ round f true (b - a) c
unfolding sum
cond-neg f a b c h = go (ltb a b) (lt→ltb a b h)
  where
    go : (t : Bool) → T t → cond t (round f true (b - a) c) (round f false (a - b) c) ≡ round f true (b - a) c
    go true k = refl
    go false k = absurd k

sub-lt : (f : Format) (x y : Float) → T (plain x) → T (plain y) → num x * den y < num y * den x → sub f x y ≡ round f true (num y * den x - num x * den y) (den x * den y)
unfolding sub
sub-lt f nan y p q h = absurd p
sub-lt f (inf s) y p q h = absurd p
sub-lt f (fin true m e) y p q h = absurd p
sub-lt f (fin false m e) nan p q h = absurd q
sub-lt f (fin false m e) (inf t) p q h = absurd q
sub-lt f (fin false m e) (fin true n d) p q h = absurd q
sub-lt f (fin false m e) (fin false n d) p q h = cond-neg f (m * up e * down d) (n * up d * down e) (down e * down d) h

pub sub-swap : (f : Format) (x y : Float) → T (plain x) → T (plain y) → num x * den y < num y * den x → sub f x y ≡ neg (sub f y x)
sub-swap f x y p q h =
    sub-lt f x y p q h
    ∙ round-neg f (num y * den x - num x * den y) (den x * den y)
    ∙ ap (λ (z : ℕ). neg (round f false (num y * den x - num x * den y) z)) (mul_comm (den x) (den y))
    ∙ ap neg (sym (sub_is f y x q p (le_of_lt h)))

pub mul-neg : (f : Format) (x y : Float) → T (plain x) → T (plain y) → mul f x (neg y) ≡ neg (mul f x y)
unfolding mul neg
mul-neg f nan y p q = absurd p
mul-neg f (inf s) y p q = absurd p
mul-neg f (fin true m e) y p q = absurd p
mul-neg f (fin false m e) nan p q = absurd q
mul-neg f (fin false m e) (inf t) p q = absurd q
mul-neg f (fin false m e) (fin true n d) p q = absurd q
mul-neg f (fin false m e) (fin false n d) p q = round-neg f (m * up e * (n * up d)) (down e * down d)

pub add-neg : (f : Format) (x y : Float) → add f x (neg y) ≡ sub f x y
unfolding sub
add-neg f x y = refl

-- 1 times a / c is at most a / c, as `mul-within` asks
pub one-times : (a c : ℕ) → 1 * a * c ≤ a * (1 * c)
one-times a c = simp (mul_assoc, mul_comm, mul_left_comm) (omega arith)

pub lerp-within : (a b : ℕ) (lo hi t : Float) → T (fits binary32 lo) → Holds binary32 a 1 → Holds binary32 b 1 → a + a ≤ b → Within a 1 lo → Within a 1 hi → Within 1 1 t → Within b 1 (lerp lo hi t)
lerp-within a b lo hi t F v w h L H S = go (le-or-lt (num lo * den hi) (num hi * den lo))
  where
    both : (a b : ℕ) → a + a ≤ b → (a * 1 + a * 1) * 1 ≤ b * (1 * 1)
    both a b h = omega arith

    less : (a b : ℕ) → a + a ≤ b → a * 1 ≤ b * 1
    less a b h = omega arith

    go : (num lo * den hi ≤ num hi * den lo) ⊎ (num hi * den lo < num lo * den hi) → Within b 1 (lerp lo hi t)
    go (inl l) =
        let u = sub binary32 hi lo in
        let U : Within a 1 u = sub_within binary32 hi lo a 1 a 1 (lit< tt) (lit< tt) v H L.plain-is l (le_refl (a * 1)) in
        let W : Within a 1 (mul binary32 t u) = mul-within binary32 t u 1 1 a 1 a 1 (lit< tt) (lit< tt) (lit< tt) v S U (one-times a 1) in
        add-within binary32 lo (mul binary32 t u) a 1 a 1 b 1 (lit< tt) (lit< tt) (lit< tt) w L W (both a b h)
    go (inr l) =
        let u = sub binary32 lo hi in
        let D = den_pos lo in
        let self : Holds binary32 (num lo) (den lo) = fits-holds binary32 lo F L.plain-is in
        let U : AtMost lo u = sub_within binary32 lo hi (num lo) (den lo) (num lo) (den lo) D D self (up-to-self lo L.plain-is) H.plain-is (le_of_lt l) (le_refl (num lo * den lo)) in
        let W : AtMost lo (mul binary32 t u) = mul-within binary32 t u 1 1 (num lo) (den lo) (num lo) (den lo) (lit< tt) D D self S U (one-times (num lo) (den lo)) in
        let e : lerp lo hi t ≡ sub binary32 lo (mul binary32 t u) =
        ap (λ (z : Float). add binary32 lo (mul binary32 t z)) (sub-swap binary32 hi lo H.plain-is L.plain-is l)
        ∙ ap (λ (z : Float). add binary32 lo z) (mul-neg binary32 t u S.plain-is U.plain-is)
        ∙ add-neg binary32 lo (mul binary32 t u) in
        subst (λ (z : Float). Within b 1 z) (sym e) (sub_within binary32 lo (mul binary32 t u) a 1 b 1 (lit< tt) (lit< tt) w L W.plain-is W.upper (less a b h))

-- ---- a whole number as a float
pub int-value : (n : ℕ) → n ≤ 16777216 → HasValue (of_int binary32 (pos n)) false n 1
unfolding of_int
int-value n h = round_whole binary32 false n h

pub int-within : (n a : ℕ) → n ≤ a → a ≤ 16777216 → Within a 1 (of_int binary32 (pos n))
int-within n a h k = value-within (of_int binary32 (pos n)) n 1 a 1 (lit< tt) (lit< tt) (int-value n (le_trans h k)) (mul-le-mul_right 1 h)

-- ---- a difference of two values that differ is not rounded to 0
-- in units of 2 ^ -149 a value is a whole number
pub count : (x : Float) → T (fits binary32 x) → T (plain x) → (u : ℕ) × (num x * 2 ^ 149 ≡ u * den x)
unfolding fits
count nan t p = absurd p
count (inf s) t p = absurd p
count (fin true m e) t p = absurd p
count (fin false m (pos k)) t p = (m * 2 ^ k * 2 ^ 149, sym (mul-one (m * 2 ^ k * 2 ^ 149)))
count (fin false zero (negsuc k)) t p = (0, ap (λ (z : ℕ). z * 2 ^ 149) (zero-mul 1) ∙ zero-mul (2 ^ 149) ∙ sym (zero-mul (2 ^ suc k)))
count (fin false (suc m) (negsuc k)) t p =
    let K : suc k ≤ 149 = pow_le_back (suc k) 149 (fitting binary32 false m (negsuc k) t).fine in
    (suc m * 1 * 2 ^ (149 - suc k), ap (λ (z : ℕ). suc m * 1 * 2 ^ z) (sym (sub-add_cancel K)) ∙ ap (λ (z : ℕ). suc m * 1 * z) (pow-add 2 (149 - suc k) (suc k)) ∙ sym (mul_assoc (suc m * 1) (2 ^ (149 - suc k)) (2 ^ suc k)))

gap : (H dh U L dl u c : ℕ) → 0 < c → H * c ≡ U * dh → L * c ≡ u * dl → L * dh < H * dl → 1 * (dh * dl) ≤ (H * dl - L * dh) * c
gap H dh U L dl u c C p q h =
    let x : c * (H * dl) ≡ U * (dh * dl) = simp (mul_assoc, mul_comm, mul_left_comm) (simp (mul_assoc, mul_comm, mul_left_comm) at (ap (λ (z : ℕ). z * dl) p)) in
    let y : c * (L * dh) ≡ u * (dh * dl) = simp (mul_assoc, mul_comm, mul_left_comm) (simp (mul_assoc, mul_comm, mul_left_comm) at (ap (λ (z : ℕ). z * dh) q)) in
    let l : u * (dh * dl) < U * (dh * dl) = lt_of_le_of_lt (le_of_eq (sym y ∙ mul_comm c (L * dh))) (lt_of_lt_of_le (mul-lt-mul_of_pos_right h C) (le_of_eq (mul_comm (H * dl) c ∙ x))) in
    let k : u < U = lt_of_mul-lt-mul_right (dh * dl) l in
    let e : (H * dl - L * dh) * c ≡ (U - u) * (dh * dl) =
    mul_comm (H * dl - L * dh) c ∙ mul-sub c (H * dl) (L * dh) ∙ ap (λ (z : ℕ). z - c * (L * dh)) x ∙ ap (λ (z : ℕ). U * (dh * dl) - z) y
    ∙ ap (λ (z : ℕ). z - u * (dh * dl)) (mul_comm U (dh * dl)) ∙ ap (λ (z : ℕ). dh * dl * U - z) (mul_comm u (dh * dl)) ∙ sym (mul-sub (dh * dl) U u) ∙ mul_comm (dh * dl) (U - u) in
    le_trans (mul-le-mul_right (dh * dl) (one-at-least U u k)) (le_of_eq (sym e))
  where
    one-at-least : (a b : ℕ) → b < a → 1 ≤ a - b
    one-at-least a b h = omega arith

pub sub-up-to : (x y : Float) → T (fits binary32 x) → T (plain x) → T (plain y) → num y * den x ≤ num x * den y → AtMost x (sub binary32 x y)
sub-up-to x y t p q l = sub_within binary32 x y (num x) (den x) (num x) (den x) (den_pos x) (den_pos x) (fits-holds binary32 x t p) (up-to-self x p) q l (le_refl (num x * den x))

pub sub-positive : (x y : Float) → T (fits binary32 x) → T (fits binary32 y) → T (plain x) → T (plain y) → num y * den x < num x * den y → 0 < num (sub binary32 x y)
unfolding round
sub-positive x y t s p q l =
    let r = sub binary32 x y in
    let least : Float = fin false 1 (negsuc 148) in
    let U = count x t p in
    let u = count y s q in
    let m : T (le least (round binary32 false (num x * den y - num y * den x) (den x * den y))) =
    round_mono binary32 1 (2 ^ 149) (num x * den y - num y * den x) (den x * den y) (pow_pos 149) (mul-pos (den_pos x) (den_pos y))
    (gap (num x) (den x) U.0 (num y) (den y) u.0 (2 ^ 149) (pow_pos 149) U.1 u.1 l) in
    let k : T (le least r) = subst (λ (z : Float). T (le least z)) (sym (sub_is binary32 x y p q (le_of_lt l))) m in
    first_pos (num r) (2 ^ 149) (lt_of_lt_of_le (mul-pos (lit< tt) (den_pos r)) (le→cross least r tt (sub-up-to x y t p q (le_of_lt l)).plain-is k))

-- ---- the place of f0 between lo and hi
abbrev pub ratio : Float → Float → Float → Float
ratio lo f0 hi = div binary32 (sub binary32 f0 lo) (sub binary32 hi lo)

grow : (F df H dh L dl : ℕ) → F * dh ≤ H * df → (F * dl - L * df) * (dh * dl) ≤ (H * dl - L * dh) * (df * dl)
grow F df H dh L dl h =
    let a : dh * dl * (F * dl) ≤ df * dl * (H * dl) = simp (mul_assoc, mul_comm, mul_left_comm) (simp (mul_assoc, mul_comm, mul_left_comm) at (mul-le-mul_right (dl * dl) h)) in
    let b : dh * dl * (L * df) ≡ df * dl * (L * dh) = simp (mul_assoc, mul_comm, mul_left_comm) in
    le_trans (le_of_eq (mul_comm (F * dl - L * df) (dh * dl) ∙ mul-sub (dh * dl) (F * dl) (L * df)))
    (le_trans (less (dh * dl * (F * dl)) (dh * dl * (L * df)) (df * dl * (H * dl)) (df * dl * (L * dh)) a b)
    (le_of_eq (sym (mul_comm (H * dl - L * dh) (df * dl) ∙ mul-sub (df * dl) (H * dl) (L * dh)))))
  where
    less : (p q r s : ℕ) → p ≤ r → q ≡ s → p - q ≤ r - s
    less p q r s h e = omega arith

pub ratio-within : (lo f0 hi : Float) → T (fits binary32 lo) → T (fits binary32 f0) → T (fits binary32 hi) → T (plain lo) → T (plain f0) → T (plain hi)
    → num lo * den f0 ≤ num f0 * den lo → num f0 * den hi < num hi * den f0 → Within 1 1 (ratio lo f0 hi)
unfolding round
ratio-within lo f0 hi s t u p q r l h =
    let A = sub binary32 f0 lo in
    let B = sub binary32 hi lo in
    let lh : num lo * den hi < num hi * den lo = through-lt (num lo) (den lo) (num f0) (den f0) (num hi) (den hi) (den_pos f0) (den_pos lo) (den_pos hi) l h in
    let pa : AtMost f0 A = sub-up-to f0 lo t q p l in
    let pb : AtMost hi B = sub-up-to hi lo u r p (le_of_lt lh) in
    let N : 0 < num B = sub-positive hi lo u s r p lh in
    let m : T (le A B) =
    subst (λ (z : Float). T (le z B)) (sym (sub_is binary32 f0 lo q p l))
    (subst (λ (z : Float). T (le (round binary32 false (num f0 * den lo - num lo * den f0) (den f0 * den lo)) z)) (sym (sub_is binary32 hi lo r p (le_of_lt lh)))
    (round_mono binary32 (num f0 * den lo - num lo * den f0) (den f0 * den lo) (num hi * den lo - num lo * den hi) (den hi * den lo) (mul-pos (den_pos f0) (den_pos lo)) (mul-pos (den_pos hi) (den_pos lo))
    (grow (num f0) (den f0) (num hi) (den hi) (num lo) (den lo) (le_of_lt h)))) in
    div-within binary32 A B (num B) (den B) (num B) (den B) 1 1 (den_pos B) N (lit< tt) (refl, refl)
    (record { plain-is = pa.plain-is; upper = le→cross A B pa.plain-is pb.plain-is m }) pb.plain-is N (le_refl (num B * den B)) (le_of_eq (last (num B) (den B)))
  where
    last : (b d : ℕ) → b * d * 1 ≡ 1 * (d * b)
    last b d = simp (mul-one, one-mul, mul_comm)

    through-lt : (x p y q z r : ℕ) → 0 < q → 0 < p → 0 < r → x * q ≤ y * p → y * r < z * q → x * r < z * p
    through-lt x p y q z r Q P R h k =
        lt_of_mul-lt-mul_right q
        (lt_of_le_of_lt (le_of_eq (mul_right_comm x r q))
        (lt_of_le_of_lt (mul-le-mul_right r h)
        (lt_of_le_of_lt (le_of_eq (mul_right_comm y p r))
        (lt_of_lt_of_le (mul-lt-mul_of_pos_right k P) (le_of_eq (mul_right_comm z q p))))))
