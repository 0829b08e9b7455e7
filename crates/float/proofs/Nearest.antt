-- The square root of a positive float is the float nearest to the root. Assumes nothing.
use mathlib.Core.Path.{◌≡◌, refl, sym, ap, ◌∙◌, subst}
use mathlib.Core.Logic.{◌⊎◌, inl, inr}
use Prim.Native.Nat.{ℕ, zero, suc, ◌+◌, ◌-◌, ◌*◌, ◌/◌, ◌%◌, ◌^◌, ◌≤◌, ◌<◌}
use native.Mathlib.Nat.{le_trans, le_of_eq, le_of_lt, lt_of_lt_of_le, lt_of_le_of_lt, mul-le-mul, mul-le-mul_right, mul-lt-mul_of_pos_right, mul-lt-mul_of_pos_left, mul_assoc, mul_comm, mul_left_comm, mul_right_comm, mul-one, mul-pos, add-mul, eq-or-lt_of_le, eq_of_mul-eq-mul_right, le_of_mul-le-mul_left, lt_of_mul-lt-mul_left, lt_of_mul-lt-mul_right, sub-add_cancel, mul-le-mul_left, mul-mul-mul_comm, add-le-add, mod-lt, not-le_of_lt, lt_of_not-le, le_of_suc-le-suc, pow-suc}
use native.Mathlib.Omega.{arith}
use mathlib.Core.Bool.{Bool, true, false, cond}
use lib.IntN.{pos, negsuc}
use lib.Dec.{T, eqb, lit<, lit≤}
use lib.Pow.{pow-add, pow_pos, pow_mono}
use lib.Ieee.{Float, fin, binary32, mul, lt, of_bits, to_bits, fits}
use lib.Ieee.Bits.{of_bits-fits}
use lib.Ieee.Exact.{HasValue}
use lib.Ieee.Fits.{mul-fits}
use lib.Ieee.Positive.{num, den, den_pos, positive}
use lib.Ieee.Scale.{round_same}
use Rattle.float.specs.inner.Range.{plain}
use Rattle.float.specs.Root.{root}
use Rattle.float.specs.Sqrt.{smallest, scaled, significand, root_bits, normal_root, positive_root, sqrt}
use Rattle.float.specs.inner.Normal.{normal}
use Rattle.float.specs.Nearest.{NearestRoot}
use Rattle.float.proofs.Within.{value-plain, value-cross, mul_is}
use Rattle.float.proofs.Unique.{round-self}
use Rattle.float.proofs.Bounds.{le-or-lt}
use Rattle.float.proofs.Patterns.{fields_val, val, val-normal, val-packed, pattern-is, plain-pattern, normal-range}
use Rattle.float.proofs.RootLaws.{significand-small, Root, root_is, root-range, scaled-even, scaled-odd, scaled-range}
use Rattle.float.proofs.Subnormal.{positive-plain, scaled_value, normal-scaled, normal-from}
use Rattle.float.proofs.Operands.{positive-sqrt}

-- ---- the root cut to 25 digits, rounded to 24: within a half, and never at a half
halves : (r : ℕ) → (r ≡ 2 * ((r + 1) / 2)) ⊎ (r ≡ 2 * (r / 2) + 1)
halves r = go (r % 2) (small r) refl
  where
    small : (r : ℕ) → r % 2 < 2
    small r = omega arith

    even : (r : ℕ) → r % 2 ≡ 0 → r ≡ 2 * ((r + 1) / 2)
    even r h = omega arith

    odd : (r : ℕ) → r % 2 ≡ 1 → r ≡ 2 * (r / 2) + 1
    odd r h = omega arith

    never : (d : ℕ) → suc (suc d) < 2 → ⊥
    never d h = omega arith

    go : (d : ℕ) → d < 2 → r % 2 ≡ d → (r ≡ 2 * ((r + 1) / 2)) ⊎ (r ≡ 2 * (r / 2) + 1)
    go zero h e = inl (even r e)
    go (suc zero) h e = inr (odd r e)
    go (suc (suc d)) h e = absurd (never d h)

-- the square of an odd number is odd
odd-square : (n r j : ℕ) → r ≡ 2 * j + 1 → r * r ≡ n → n % 2 ≡ 0 → ⊥
odd-square n r j e s z = close n (j * r) r j (sym s ∙ ap (λ (a : ℕ). a * r) e ∙ add-mul (2 * j) 1 r ∙ ap (λ (a : ℕ). a + 1 * r) (mul_assoc 2 j r)) e z
  where
    close : (n p r j : ℕ) → n ≡ 2 * p + 1 * r → r ≡ 2 * j + 1 → n % 2 ≡ 0 → ⊥
    close n p r j e f z = omega arith

square : (a b : ℕ) → a < b → a * a < b * b
square a b h = lt_of_le_of_lt (mul-le-mul (le_of_lt h) (same-le a)) (mul-lt-mul_of_pos_left h (pos_of a b h))
  where
    same-le : (a : ℕ) → a ≤ a
    same-le a = omega arith

    pos_of : (a b : ℕ) → a < b → 0 < b
    pos_of a b h = omega arith

rounded : (n r : ℕ) → n % 2 ≡ 0 → 0 < r → Root n r → let h = (r + 1) / 2 in ((2 * h - 1) * (2 * h - 1) < n) × (n < (2 * h + 1) * (2 * h + 1))
rounded n r z p k = (under (halves r), lt_of_lt_of_le k.1 (mul-le-mul (over r) (over r)))
  where
    over : (r : ℕ) → r + 1 ≤ 2 * ((r + 1) / 2) + 1
    over r = omega arith

    less : (r : ℕ) → 0 < r → r ≡ 2 * ((r + 1) / 2) → 2 * ((r + 1) / 2) - 1 < r
    less r p e = omega arith

    same : (r : ℕ) → r ≡ 2 * (r / 2) + 1 → 2 * ((r + 1) / 2) - 1 ≡ r
    same r e = omega arith

    under : (r ≡ 2 * ((r + 1) / 2)) ⊎ (r ≡ 2 * (r / 2) + 1) → (2 * ((r + 1) / 2) - 1) * (2 * ((r + 1) / 2) - 1) < n
    under (inl e) = lt_of_lt_of_le (square (2 * ((r + 1) / 2) - 1) r (less r p e)) k.0
    under (inr e) =
        subst (λ (a : ℕ). a * a < n) (sym (same r e))
        (elim (eq-or-lt_of_le k.0) [ inl q ↦ absurd (odd-square n r (r / 2) e q z) | inr l ↦ l ])

-- ---- the number whose root is taken is four times x, in squares of 2 ^ k units
-- half the exponent
abbrev half : ℕ → ℕ
half b = (b / 8388608 + 1) / 2 + 62

scaled-twos : (b : ℕ) → scaled b % 2 ≡ 0
scaled-twos b = go (eqb (b / 8388608 % 2) 0)
  where
    one : (m : ℕ) → m * 67108864 % 2 ≡ 0
    one m = omega arith

    two : (m : ℕ) → m * 33554432 % 2 ≡ 0
    two m = omega arith

    go : (t : Bool) → (b % 8388608 + 8388608) * cond t 67108864 33554432 % 2 ≡ 0
    go true = one (b % 8388608 + 8388608)
    go false = two (b % 8388608 + 8388608)

balance : (M e k c : ℕ) → 1 ≤ e → k + k + c ≡ e + 150 → M * 2 ^ c * (2 ^ k * 2 ^ k) ≡ 4 * (M * 2 ^ (e - 1) * 2 ^ 149)
balance M e k c E h =
    ap (λ (z : ℕ). M * 2 ^ c * z) (sym (pow-add 2 k k))
    ∙ mul_assoc M (2 ^ c) (2 ^ (k + k))
    ∙ ap (λ (z : ℕ). M * z) (mul_comm (2 ^ c) (2 ^ (k + k)) ∙ sym (pow-add 2 (k + k) c) ∙ ap (λ (z : ℕ). 2 ^ z) (h ∙ sum e E) ∙ pow-add 2 2 (e - 1 + 149) ∙ ap (λ (z : ℕ). 4 * z) (pow-add 2 (e - 1) 149))
    ∙ mul_left_comm M 4 (2 ^ (e - 1) * 2 ^ 149)
    ∙ ap (λ (z : ℕ). 4 * z) (sym (mul_assoc M (2 ^ (e - 1)) (2 ^ 149)))
  where
    sum : (e : ℕ) → 1 ≤ e → e + 150 ≡ 2 + (e - 1 + 149)
    sum e E = omega arith

scaled-balance : (b : ℕ) → 8388608 ≤ b → scaled b * (2 ^ half b * 2 ^ half b) ≡ 4 * (val b * 2 ^ 149)
scaled-balance b l = go (b / 8388608 % 2) refl (below b)
  where
    below : (b : ℕ) → b / 8388608 % 2 < 2
    below b = omega arith

    one : (b : ℕ) → 8388608 ≤ b → 1 ≤ b / 8388608
    one b l = omega arith

    even : (e : ℕ) → e % 2 ≡ 0 → (e + 1) / 2 + 62 + ((e + 1) / 2 + 62) + 26 ≡ e + 150
    even e h = omega arith

    odd : (e : ℕ) → e % 2 ≡ 1 → (e + 1) / 2 + 62 + ((e + 1) / 2 + 62) + 25 ≡ e + 150
    odd e h = omega arith

    one_not_zero : (a : ℕ) → a ≡ 1 → a ≡ 0 → ⊥
    one_not_zero a h g = omega arith

    never : (d : ℕ) → suc (suc d) < 2 → ⊥
    never d h = omega arith

    reordered : (t : ℕ) → t + 8388608 ≡ 8388608 + t
    reordered t = omega arith

    shape : 4 * ((b % 8388608 + 8388608) * 2 ^ (b / 8388608 - 1) * 2 ^ 149) ≡ 4 * (val b * 2 ^ 149)
    shape = ap (λ (m : ℕ). 4 * (m * 2 ^ (b / 8388608 - 1) * 2 ^ 149)) (reordered (b % 8388608)) ∙ ap (λ (n : ℕ). 4 * (n * 2 ^ 149)) (sym (val-normal b l))

    go : (d : ℕ) → b / 8388608 % 2 ≡ d → d < 2 → scaled b * (2 ^ half b * 2 ^ half b) ≡ 4 * (val b * 2 ^ 149)
    go zero h u = ap (λ (n : ℕ). n * (2 ^ half b * 2 ^ half b)) (scaled-even b h) ∙ balance (b % 8388608 + 8388608) (b / 8388608) (half b) 26 (one b l) (even (b / 8388608) h) ∙ shape
    go (suc zero) h u = ap (λ (n : ℕ). n * (2 ^ half b * 2 ^ half b)) (scaled-odd b (one_not_zero (b / 8388608 % 2) h)) ∙ balance (b % 8388608 + 8388608) (b / 8388608) (half b) 25 (one b l) (odd (b / 8388608) h) ∙ shape
    go (suc (suc d)) h u = absurd (never d u)

-- ---- the root of Y squares of units is at least 2 ^ 23 * 2 ^ k units, and within less than a half of h, in units of 2 ^ k
record Rounds (Y h k : ℕ) : Type 0 where
  digits : (8388608 ≤ h) × (h ≤ 16777216)
  from : 8388608 * 8388608 * (2 ^ k * 2 ^ k) ≤ Y
  low : (2 * h - 1) * (2 * h - 1) * (2 ^ k * 2 ^ k) < 4 * Y
  high : 4 * Y < (2 * h + 1) * (2 * h + 1) * (2 ^ k * 2 ^ k)

normal-rounds : (b : ℕ) → 8388608 ≤ b → Rounds (val b * 2 ^ 149) (significand b) (half b)
normal-rounds b l =
    let N = scaled b in
    let s = scaled-range b in
    let r = root N in
    let rr = root-range N s.0 s.1 in
    let Q = 2 ^ half b * 2 ^ half b in
    let P : 0 < Q = mul-pos (pow_pos (half b)) (pow_pos (half b)) in
    let e : N * Q ≡ 4 * (val b * 2 ^ 149) = scaled-balance b l in
    let t = rounded N r (scaled-twos b) (lt_of_lt_of_le (lit< tt) rr.0) (root_is N (lt_of_lt_of_le s.1 (lit≤ tt))) in
    record {
      digits = (lo r rr.0, significand-small b);
      from = quarter-le Q (val b * 2 ^ 149) (le_trans (mul-le-mul_right Q s.0) (le_of_eq e));
      low = lt_of_lt_of_le (mul-lt-mul_of_pos_right t.0 P) (le_of_eq e);
      high = lt_of_le_of_lt (le_of_eq (sym e)) (mul-lt-mul_of_pos_right t.1 P);
    }
  where
    lo : (r : ℕ) → 16777216 ≤ r → 8388608 ≤ (r + 1) / 2
    lo r h = omega arith

    quarter-le : (q y : ℕ) → 2 ^ 48 * q ≤ 4 * y → 8388608 * 8388608 * q ≤ y
    quarter-le q y h = omega arith

-- the pattern that is made lies below the infinity's
pub made-under : (b h : ℕ) → b < 2139095040 → h ≤ 16777216 → ((b / 8388608 + 1) / 2 + 62) * 8388608 + h < 2139095040
made-under b h u v = omega arith

normal-result : (x : Float) → T (fits binary32 x) → T (normal x) → let b = to_bits binary32 x in HasValue (normal_root x) false (significand b * 2 ^ half b) (2 ^ 149)
normal-result x t n =
    let b = to_bits binary32 x in
    let range = normal-range x t n in
    let d = (normal-rounds b range.0).digits in
    subst (λ (z : ℕ). HasValue (normal_root x) false z (2 ^ 149)) (val-packed (half b) (significand b) d.0 d.1) (pattern-is (half b * 8388608 + significand b) (made-under b (significand b) range.1 d.1))

-- ---- from 2 ^ 23 * 2 ^ k units on, every float is a multiple of 2 ^ k units
value_same : (y : Float) (a c b d : ℕ) → HasValue y false a c → HasValue y false b d → a * d ≡ b * c
value_same y a c b d v w =
    eq_of_mul-eq-mul_right (den y) (den_pos y) (a * d) (b * c)
    (mul_right_comm a d (den y) ∙ ap (λ (z : ℕ). z * d) (sym (value-cross y a c v)) ∙ mul_right_comm (num y) c d ∙ ap (λ (z : ℕ). z * c) (value-cross y b d w) ∙ mul_right_comm b (den y) c)

fields_val-grid : (x t k : ℕ) → t < 8388608 → 8388608 * 2 ^ k ≤ fields_val x t → (q : ℕ) × (fields_val x t ≡ q * 2 ^ k)
fields_val-grid zero t k u h = absurd (not-le_of_lt u (le_trans (le_trans (le_of_eq (sym (mul-one 8388608))) (mul-le-mul_left 8388608 (pow_pos k))) h))
fields_val-grid (suc x) t k u h =
    let l : 8388608 * 2 ^ k < 8388608 * 2 ^ suc x = lt_of_le_of_lt h (lt_of_lt_of_le (mul-lt-mul_of_pos_right (more t u) (pow_pos x)) (le_of_eq (mul_assoc 8388608 2 (2 ^ x) ∙ ap (λ (z : ℕ). 8388608 * z) (mul_comm 2 (2 ^ x) ∙ sym (pow-suc 2 x))))) in
    let K : k ≤ x = le_of_suc-le-suc (exponent k (suc x) (lt_of_mul-lt-mul_left 8388608 l)) in
    ((8388608 + t) * 2 ^ (x - k), ap (λ (z : ℕ). (8388608 + t) * 2 ^ z) (sym (sub-add_cancel K)) ∙ ap (λ (z : ℕ). (8388608 + t) * z) (pow-add 2 (x - k) k) ∙ sym (mul_assoc (8388608 + t) (2 ^ (x - k)) (2 ^ k)))
  where
    more : (t : ℕ) → t < 8388608 → 8388608 + t < 8388608 * 2
    more t h = omega arith

    exponent : (i j : ℕ) → 2 ^ i < 2 ^ j → i < j
    exponent i j h = lt_of_not-le (λ (g : j ≤ i). not-le_of_lt h (pow_mono g))

float-grid : (y : Float) (Y k : ℕ) → T (fits binary32 y) → HasValue y false Y (2 ^ 149) → 8388608 * 2 ^ k ≤ Y → (q : ℕ) × (Y ≡ q * 2 ^ k)
float-grid y Y k t v h =
    let n = to_bits binary32 y in
    let w : HasValue y false (val n) (2 ^ 149) = (plain-pattern y t (value-plain y Y (2 ^ 149) v)).1 in
    let e : Y ≡ val n = eq_of_mul-eq-mul_right (2 ^ 149) (pow_pos 149) Y (val n) (value_same y Y (2 ^ 149) (val n) (2 ^ 149) v w) in
    let g = fields_val-grid (n / 8388608) (n % 8388608) k (mod-lt n (lit< tt)) (le_trans h (le_of_eq e)) in
    (g.0, e ∙ g.1)

-- ---- so a float that is not r is farther from the root than r
module _ (S h k : ℕ) (d : Rounds S h k) where
  squares : (c : ℕ) → c * 2 ^ k * (c * 2 ^ k) ≡ c * c * (2 ^ k * 2 ^ k)
  squares c = mul-mul-mul_comm c (2 ^ k) c (2 ^ k)

  -- y is at most (h - 1) * 2 ^ k units
  step-under : (Y : ℕ) → Y ≤ (h - 1) * 2 ^ k → (Y + h * 2 ^ k) * (Y + h * 2 ^ k) < 4 * S
  step-under Y l =
      let m : Y + h * 2 ^ k ≤ (2 * h - 1) * 2 ^ k = le_trans (add-le-add l (le_of_eq refl)) (le_of_eq (sym (add-mul (h - 1) h (2 ^ k)) ∙ ap (λ (z : ℕ). z * 2 ^ k) (two h d.digits.0))) in
      lt_of_le_of_lt (mul-le-mul m m) (lt_of_le_of_lt (le_of_eq (squares (2 * h - 1))) d.low)
    where
      two : (h : ℕ) → 8388608 ≤ h → h - 1 + h ≡ 2 * h - 1
      two h l = omega arith

  -- y is below 2 ^ 23 * 2 ^ k units
  under-grid : (Y : ℕ) → Y < 8388608 * 2 ^ k → (Y + h * 2 ^ k) * (Y + h * 2 ^ k) < 4 * S
  under-grid Y u = elim (eq-or-lt_of_le d.digits.0) [
    | inl e ↦
        let m : Y + h * 2 ^ k < 2 * (8388608 * 2 ^ k) = subst (λ (z : ℕ). Y + z * 2 ^ k < 2 * (8388608 * 2 ^ k)) e (double Y (8388608 * 2 ^ k) u) in
        lt_of_lt_of_le (square (Y + h * 2 ^ k) (2 * (8388608 * 2 ^ k)) m)
        (le_trans (le_of_eq (mul-mul-mul_comm 2 (8388608 * 2 ^ k) 2 (8388608 * 2 ^ k))) (mul-le-mul_left 4 (le_trans (le_of_eq (squares 8388608)) d.from)))
    | inr l ↦ step-under Y (le_trans (le_of_lt u) (mul-le-mul_right (2 ^ k) (less h l)))
  ]
    where
      double : (a b : ℕ) → a < b → a + b < 2 * b
      double a b h = omega arith

      less : (h : ℕ) → 8388608 < h → 8388608 ≤ h - 1
      less h l = omega arith

  lower-farther : (y : Float) (Y : ℕ) → T (fits binary32 y) → HasValue y false Y (2 ^ 149) → Y < h * 2 ^ k → (Y + h * 2 ^ k) * (Y + h * 2 ^ k) < 4 * S
  lower-farther y Y t v u = go (le-or-lt (8388608 * 2 ^ k) Y)
    where
      less : (q h : ℕ) → q < h → q ≤ h - 1
      less q h l = omega arith

      go : (8388608 * 2 ^ k ≤ Y) ⊎ (Y < 8388608 * 2 ^ k) → (Y + h * 2 ^ k) * (Y + h * 2 ^ k) < 4 * S
      go (inl g) =
          let q = float-grid y Y k t v g in
          let m : q.0 < h = lt_of_mul-lt-mul_right (2 ^ k) (lt_of_le_of_lt (le_of_eq (sym q.1)) u) in
          step-under Y (le_trans (le_of_eq q.1) (mul-le-mul_right (2 ^ k) (less q.0 h m)))
      go (inr g) = under-grid Y g

  higher-farther : (y : Float) (Y : ℕ) → T (fits binary32 y) → HasValue y false Y (2 ^ 149) → h * 2 ^ k < Y → 4 * S < (Y + h * 2 ^ k) * (Y + h * 2 ^ k)
  higher-farther y Y t v u =
      let q = float-grid y Y k t v (le_trans (mul-le-mul_right (2 ^ k) d.digits.0) (le_of_lt u)) in
      let m : h < q.0 = lt_of_mul-lt-mul_right (2 ^ k) (lt_of_lt_of_le u (le_of_eq q.1)) in
      let w : (2 * h + 1) * 2 ^ k ≤ Y + h * 2 ^ k = le_trans (mul-le-mul_right (2 ^ k) (more h q.0 m)) (le_of_eq (add-mul q.0 h (2 ^ k) ∙ ap (λ (z : ℕ). z + h * 2 ^ k) (sym q.1))) in
      lt_of_lt_of_le d.high (le_trans (le_of_eq (sym (squares (2 * h + 1)))) (mul-le-mul w w))
    where
      more : (h q : ℕ) → h < q → 2 * h + 1 ≤ q + h
      more h q l = omega arith

nearest-of : (x r : Float) (X h k : ℕ) → T (fits binary32 r) → HasValue x false X (2 ^ 149) → HasValue r false (h * 2 ^ k) (2 ^ 149) → Rounds (X * 2 ^ 149) h k → NearestRoot x r
nearest-of x r X h k f v w d = record {
  fits-is = f;
  X = X;
  R = h * 2 ^ k;
  value = v;
  result = w;
  lower = lower-farther (X * 2 ^ 149) h k d;
  higher = higher-farther (X * 2 ^ 149) h k d;
}

normal-nearest : (x : Float) → T (fits binary32 x) → T (normal x) → T (plain x) → NearestRoot x (normal_root x)
normal-nearest x t n p =
    let b = to_bits binary32 x in
    nearest-of x (normal_root x) (val b) (significand b) (half b) (of_bits-fits binary32 (root_bits b)) (plain-pattern x t p).1 (normal-result x t n) (normal-rounds b (normal-range x t n).0)

-- ---- a subnormal x: y = x * 2 ^ 24 is exact and normal, and the root of y times 2 ^ -12 is exact
-- the number of y is that of x times 2 ^ 24
scaled-number : (x : Float) (X Y : ℕ) → HasValue x false X (2 ^ 149) → HasValue (mul binary32 x (fin false 1 (pos 24))) false Y (2 ^ 149) → HasValue (mul binary32 x (fin false 1 (pos 24))) false (num x * 2 ^ 24) (den x) → Y ≡ X * 2 ^ 24
scaled-number x X Y v w u =
    eq_of_mul-eq-mul_right (den x) (den_pos x) Y (X * 2 ^ 24)
    (value_same (mul binary32 x (fin false 1 (pos 24))) Y (2 ^ 149) (num x * 2 ^ 24) (den x) w u
    ∙ mul_right_comm (num x) (2 ^ 24) (2 ^ 149) ∙ ap (λ (z : ℕ). z * 2 ^ 24) (value-cross x X (2 ^ 149) v) ∙ mul_right_comm X (den x) (2 ^ 24))

-- 2 ^ k units down by 2 ^ 12: their squares by 2 ^ 24
down-squares : (a j : ℕ) → a * (2 ^ (j + 12) * 2 ^ (j + 12)) ≡ 2 ^ 24 * (a * (2 ^ j * 2 ^ j))
down-squares a j = ap (λ (z : ℕ). a * (z * z)) (pow-add 2 j 12) ∙ reordered a (2 ^ j)
  where
    reordered : (a q : ℕ) → a * (q * 4096 * (q * 4096)) ≡ 16777216 * (a * (q * q))
    reordered a q = ap (λ (z : ℕ). a * z) (mul_right_comm q 4096 (q * 4096) ∙ ap (λ (z : ℕ). z * 4096) (sym (mul_assoc q q 4096)) ∙ mul_assoc (q * q) 4096 4096) ∙ sym (mul_assoc a (q * q) 16777216) ∙ mul_comm (a * (q * q)) 16777216

down-rounds : (Y h j : ℕ) → Rounds (2 ^ 24 * Y) h (j + 12) → Rounds Y h j
down-rounds Y h j d = record {
  digits = d.digits;
  from = le_of_mul-le-mul_left (le_trans (le_of_eq (sym (down-squares (8388608 * 8388608) j))) d.from) (pow_pos 24);
  low = lt_of_mul-lt-mul_left (2 ^ 24) (lt_of_le_of_lt (le_of_eq (sym (down-squares ((2 * h - 1) * (2 * h - 1)) j))) (lt_of_lt_of_le d.low (le_of_eq (mul_left_comm 4 (2 ^ 24) Y))));
  high = lt_of_mul-lt-mul_left (2 ^ 24) (lt_of_le_of_lt (le_of_eq (mul_left_comm (2 ^ 24) 4 Y)) (lt_of_lt_of_le d.high (le_of_eq (down-squares ((2 * h + 1) * (2 * h + 1)) j))));
}

-- s, of h * 2 ^ (j + 12) units, times 2 ^ -12
down-result : (s : Float) (h j : ℕ) → 8388608 ≤ h → h ≤ 16777216 → j * 8388608 + h < 2139095040 → HasValue s false (h * 2 ^ (j + 12)) (2 ^ 149)
    → HasValue (mul binary32 s (fin false 1 (negsuc 11))) false (h * 2 ^ j) (2 ^ 149)
down-result s h j l u k v =
    let z = of_bits binary32 (j * 8388608 + h) in
    let w : HasValue z false (h * 2 ^ j) (2 ^ 149) = subst (λ (n : ℕ). HasValue z false n (2 ^ 149)) (val-packed j h l u) (pattern-is (j * 8388608 + h) k) in
    let p : T (plain s) = value-plain s (h * 2 ^ (j + 12)) (2 ^ 149) v in
    let q : T (plain z) = value-plain z (h * 2 ^ j) (2 ^ 149) w in
    let e : num s * (1 * 1) * den z ≡ num z * (den s * 4096) =
    eq_of_mul-eq-mul_right (2 ^ 149) (pow_pos 149) (num s * (1 * 1) * den z) (num z * (den s * 4096))
    (ap (λ (n : ℕ). n * den z * 2 ^ 149) (mul-one (num s))
    ∙ mul_right_comm (num s) (den z) (2 ^ 149)
    ∙ ap (λ (n : ℕ). n * den z) (value-cross s (h * 2 ^ (j + 12)) (2 ^ 149) v ∙ ap (λ (n : ℕ). h * n * den s) (pow-add 2 j 12))
    ∙ reordered h (2 ^ j) (den s) (den z)
    ∙ ap (λ (n : ℕ). n * (den s * 4096)) (sym (value-cross z (h * 2 ^ j) (2 ^ 149) w))
    ∙ mul_right_comm (num z) (2 ^ 149) (den s * 4096)) in
    subst (λ (y : Float). HasValue y false (h * 2 ^ j) (2 ^ 149))
    (sym (mul_is binary32 s (fin false 1 (negsuc 11)) p tt
    ∙ round_same binary32 false (num s * (1 * 1)) (den s * 4096) (num z) (den z) (mul-pos (den_pos s) (lit< tt)) (den_pos z) e
    ∙ round-self binary32 z (of_bits-fits binary32 (j * 8388608 + h)) q))
    w
  where
    reordered : (h q a b : ℕ) → h * (q * 4096) * a * b ≡ h * q * b * (a * 4096)
    reordered h q a b =
        ap (λ (n : ℕ). n * a * b) (sym (mul_assoc h q 4096))
        ∙ ap (λ (n : ℕ). n * b) (mul_assoc (h * q) 4096 a)
        ∙ mul_right_comm (h * q) (4096 * a) b
        ∙ ap (λ (n : ℕ). h * q * b * n) (mul_comm 4096 a)

subnormal-nearest : (x : Float) → T (fits binary32 x) → T (positive x) → T (lt x smallest) → NearestRoot x (mul binary32 (normal_root (mul binary32 x (fin false 1 (pos 24)))) (fin false 1 (negsuc 11)))
subnormal-nearest x t p l =
    let y = mul binary32 x (fin false 1 (pos 24)) in
    let q : T (plain x) = positive-plain x p in
    let n : T (normal y) = normal-scaled x t p l in
    let F : T (fits binary32 y) = mul-fits binary32 x (fin false 1 (pos 24)) in
    let u : HasValue y false (num x * 2 ^ 24) (den x) = scaled_value x t q l in
    let b = to_bits binary32 y in
    let h = significand b in
    let j = (b / 8388608 + 1) / 2 + 50 in
    let range = normal-range y F n in
    let c = val (to_bits binary32 x) in
    let v : HasValue x false c (2 ^ 149) = (plain-pattern x t q).1 in
    let w : HasValue y false (val b) (2 ^ 149) = (plain-pattern y F (value-plain y (num x * 2 ^ 24) (den x) u)).1 in
    let e : val b * 2 ^ 149 ≡ 2 ^ 24 * (c * 2 ^ 149) = ap (λ (z : ℕ). z * 2 ^ 149) (scaled-number x c (val b) v w u ∙ mul_comm c (2 ^ 24)) ∙ mul_assoc (2 ^ 24) c (2 ^ 149) in
    let d : Rounds (2 ^ 24 * (c * 2 ^ 149)) h (j + 12) = subst (λ (z : ℕ). Rounds (2 ^ 24 * (c * 2 ^ 149)) h z) (shift b) (subst (λ (z : ℕ). Rounds z h (half b)) e (normal-rounds b range.0)) in
    let g = d.digits in
    nearest-of x (mul binary32 (normal_root y) (fin false 1 (negsuc 11))) c h j (mul-fits binary32 (normal_root y) (fin false 1 (negsuc 11))) v
    (down-result (normal_root y) h j g.0 g.1 (room b h range.1 g.1) (subst (λ (z : ℕ). HasValue (normal_root y) false (h * 2 ^ z) (2 ^ 149)) (shift b) (normal-result y F n)))
    (down-rounds (c * 2 ^ 149) h j d)
  where
    shift : (b : ℕ) → (b / 8388608 + 1) / 2 + 62 ≡ (b / 8388608 + 1) / 2 + 50 + 12
    shift b = omega arith

    room : (b h : ℕ) → b < 2139095040 → h ≤ 16777216 → ((b / 8388608 + 1) / 2 + 50) * 8388608 + h < 2139095040
    room b h u v = omega arith

-- LAW: the square root of every positive finite float, normal or subnormal, is the float nearest to the root
pub sqrt-nearest : (x : Float) → T (fits binary32 x) → T (positive x) → NearestRoot x (sqrt x)
sqrt-nearest x t p = subst (λ (r : Float). NearestRoot x r) (sym (positive-sqrt x p)) (go (lt x smallest) refl)
  where
    go : (b : Bool) → lt x smallest ≡ b → NearestRoot x (positive_root x)
    go true e = subst (λ (r : Float). NearestRoot x r) (sym (ap (λ (b : Bool). cond b (mul binary32 (normal_root (mul binary32 x (fin false 1 (pos 24)))) (fin false 1 (negsuc 11))) (normal_root x)) e)) (subnormal-nearest x t p (subst T (sym e) tt))
    go false e =
        subst (λ (r : Float). NearestRoot x r) (sym (ap (λ (b : Bool). cond b (mul binary32 (normal_root (mul binary32 x (fin false 1 (pos 24)))) (fin false 1 (negsuc 11))) (normal_root x)) e))
        (normal-nearest x t (normal-from x (positive-plain x p) e) (positive-plain x p))
