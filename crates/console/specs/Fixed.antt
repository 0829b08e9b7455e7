-- The magnitude of a float in millionths, rounded to the nearest, and in decimal limbs.
use Rattle.std.specs.Prelude.{◌≡◌, ℕ, ◌+◌, ◌-◌, ◌*◌, ◌/◌, ◌%◌, ◌^◌, ◌<◌, cond, ◌==◌, nat_le, nat_lt}
use Rattle.console.specs.declared.fixed.Limbs.{Limbs}
use Rattle.console.specs.declared.fixed.Fixed.{Fixed}

-- n / d to the nearest whole number, ties to the even one
unfoldable pub rounded_of : ℕ → ℕ → ℕ
rounded_of n d =
    cond (nat_lt (n % d * 2) d) (n / d)
    (cond (nat_lt d (n % d * 2)) (n / d + 1)
    (n / d + n / d % 2))

-- the fields of a pattern: 23 digits, then 8 of the exponent, then the sign
abbrev pub field_of : ℕ → ℕ
field_of bits = bits / 8388608 % 256

-- the digits with the leading one, which a field of 0 has not
abbrev pub significand_of : ℕ → ℕ
significand_of bits = cond (field_of bits == 0) (bits % 8388608) (bits % 8388608 + 8388608)

abbrev pub exponent_of : ℕ → ℕ
exponent_of bits = cond (field_of bits == 0) 1 (field_of bits)

-- m × 2^(e - 150) in millionths
unfoldable pub scaled_of : ℕ → ℕ → ℕ
unfolding rounded_of
scaled_of m e = cond (nat_le 150 e) (m * 2 ^ (e - 150) * 1000000) (rounded_of (m * 1000000) (2 ^ (150 - e)))

-- the magnitude of the float with a pattern, in millionths
abbrev pub millionths_of : ℕ → ℕ
millionths_of bits = scaled_of (significand_of bits) (exponent_of bits)

-- the number in three limbs of 13 digits
abbrev pub total : Limbs → ℕ
total l = (l.high * 10000000000000 + l.middle) * 10000000000000 + l.low

abbrev pub InLimbs : Limbs → Type 0
InLimbs l = (l.middle < 10000000000000) × (l.low < 10000000000000)

-- n millionths: the limbs' digits, then six digits
pub record FixedIs (f : Fixed) (n : ℕ) : Type 0 where
  pub number : total f.whole * 1000000 + f.millionths ≡ n
  pub middle : f.whole.middle < 10000000000000
  pub low : f.whole.low < 10000000000000
  pub six : f.millionths < 1000000
