-- Laws on the digits of a float. Assumes nothing.
use Rattle.std.proofs.Common.{◌≡◌, ℕ, ◌+◌, ◌-◌, ◌*◌, ◌/◌, ◌%◌, ◌^◌, ◌<◌, ◌≤◌, sym, ap, ◌∙◌, subst, le_trans, lt_of_lt_of_le, add-zero, mul-le-mul_right, mod-eq_of_lt, mul_assoc, mul_comm, lt_of_not-le, div-le_self, not-le_of_lt, arith, lit≤, pow_pos, pow_mono, pow-add, shl_lt, lt-ltb, le-leb}
use native.Mathlib.Nat.{div-eq_of_lt}
use lib.Pow.{pow-lt}
use borrow.Author.Tests.{lt-leb}
use Rattle.console.specs.Fixed.{rounded_of, scaled_of, significand_of, exponent_of, millionths_of, total, InLimbs, FixedIs}
use Rattle.console.specs.declared.fixed.Limbs.{Limbs}

-- a quotient below a half rounds to 0
pub rounded-small : (n d : ℕ) → n * 2 < d → rounded_of n d ≡ 0
unfolding rounded_of
rounded-small n d h =
    let q : n / d ≡ 0 = div-eq_of_lt (omega arith) in
    let r : n % d ≡ n = mod-eq_of_lt (omega arith) in
    simp (r, lt-ltb (n * 2) d h, q)

over : (x m l : ℕ) → x * 10000000000000 ≤ (x + m) * 10000000000000 + l
over x m l = omega arith

-- a doubled limb and its carry fit 64 bits
pub carry-fits : (h m : ℕ) → h < 2 ^ 62 → m < 2 ^ 62 → h * 2 + m / 10000000000000 < 2 ^ 64
carry-fits h m p q = let d = div-le_self m 10000000000000 in omega arith

-- m × 2^i for an f32's m and i leaves room in the highest limb
pub high_small : (l : Limbs) (m i : ℕ) → m < 16777216 → i < 106 → total l ≡ m * 2 ^ i → l.high < 2 ^ 62
high_small l m i h k e =
    let p : m * 2 ^ i < 2 ^ (24 + i) = shl_lt 24 i h in
    let q : 2 ^ (24 + i) ≤ 2 ^ 129 = pow_mono {i = 24 + i} {j = 129} (omega arith) in
    let t : total l < 2 ^ 129 = subst (λ (x : ℕ). x < 2 ^ 129) (sym e) (lt_of_lt_of_le p q) in
    lt_of_not-le (λ (g : 2 ^ 62 ≤ l.high).
    not-le_of_lt t
    (le_trans (lit≤ {m = 2 ^ 129} {n = 2 ^ 62 * 10000000000000 * 10000000000000} tt)
    (le_trans (mul-le-mul_right 10000000000000 (mul-le-mul_right 10000000000000 g)) (over (l.high * 10000000000000) l.middle l.low))))

pub twice-shift : (t m i : ℕ) → t ≡ m * 2 ^ i → 2 * t ≡ m * 2 ^ (i + 1)
twice-shift t m i e =
    ap (λ (x : ℕ). 2 * x) e ∙ mul_comm 2 (m * 2 ^ i) ∙ mul_assoc m (2 ^ i) 2 ∙ ap (λ (x : ℕ). m * x) (sym (pow-add 2 i 1))

-- from 2^45 on a float's millionths are less than a half
pub rounded-far : (m s : ℕ) → m < 16777216 → 45 ≤ s → rounded_of (m * 1000000) (2 ^ s) ≡ 0
rounded-far m s h k = rounded-small (m * 1000000) (2 ^ s) (let p : 2 ^ 45 ≤ 2 ^ s = pow_mono k in omega arith)

limbs-back : (n : ℕ) → ((0 * 10000000000000 + n / 1000000 / 10000000000000) * 10000000000000 + n / 1000000 % 10000000000000) * 1000000 + n % 1000000 ≡ n
limbs-back n = omega arith

-- the two cases of a float's millionths: a whole number, and a quotient
module _ (bits m e : ℕ) (hm : m ≡ significand_of bits) (he : e ≡ exponent_of bits) where
  is-scaled : scaled_of m e ≡ millionths_of bits
  is-scaled = rw (hm, he)

  scaled-whole : 150 ≤ e → scaled_of m e ≡ m * 2 ^ (e - 150) * 1000000
  unfolding scaled_of
  scaled-whole h = simp (le-leb _ _ h)

  scaled-part : e < 150 → scaled_of m e ≡ rounded_of (m * 1000000) (2 ^ (150 - e))
  unfolding scaled_of
  scaled-part h = simp (lt-leb _ _ h)

  pub fixed-whole : (l : Limbs) → 150 ≤ e → InLimbs l → total l ≡ m * 2 ^ (e - 150) →
      FixedIs (record { whole = l; millionths = 0 }) (millionths_of bits)
  fixed-whole l h i t =
      record {
        number = add-zero (total l * 1000000) ∙ ap (λ (x : ℕ). x * 1000000) t ∙ sym (scaled-whole h) ∙ is-scaled;
        middle = i.0;
        low = i.1;
        six = omega arith;
      }

  pub fixed-part : (n : ℕ) → n < 2 ^ 64 → e < 150 → n ≡ rounded_of (m * 1000000) (2 ^ (150 - e)) →
      FixedIs
      (record {
        whole = record { high = 0; middle = n / 1000000 / 10000000000000; low = n / 1000000 % 10000000000000 };
        millionths = n % 1000000;
      })
      (millionths_of bits)
  fixed-part n f h t =
      record {
        number = limbs-back n ∙ t ∙ sym (scaled-part h) ∙ is-scaled;
        middle = omega arith;
        low = omega arith;
        six = omega arith;
      }

-- what the rounding of millionths asks
pub shift-room : (d m s : ℕ) → d ≡ 2 ^ s → m < 16777216 → s < 45 → (0 < d) × (d < 2 ^ 62) × (m * 1000000 < 2 ^ 62)
shift-room d m s e h k =
    let p : 2 ^ s < 2 ^ 45 = pow-lt k in
    let q : 0 < 2 ^ s = pow_pos s in
    (omega arith, omega arith, omega arith)
