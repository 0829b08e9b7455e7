-- The f32 of a decimal number.
use Rattle.std.specs.Prelude.{ℕ, ◌+◌, ◌-◌, ◌/◌, ◌%◌, ◌^◌, min, Bool, true, false, cond, pos, from_bits, nat_le, nat_lt, to_bits, Float}
use Rattle.std.specs.Float.{fin, binary32, binary64}
use Rattle.std.specs.Float.Ieee.{of_int, div, lt, neg}
use Rattle.console.specs.declared.decimal.Decimal.{Decimal}

-- A pattern of an f64 from 2^-126 to below 2^127 as an f32's: the last 29 digits go, ties to even, and the exponent's field,
-- whose weight is then 2^23, is 896 less; 0 of any other pattern.
unfoldable pub narrow_pattern : ℕ → ℕ
narrow_pattern b =
    cond (nat_lt b 0x3810000000000000) 0
    (cond (nat_le 0x47e0000000000000 b) 0
    (cond (nat_lt (b % 0x20000000) 0x10000000) (b / 0x20000000 - 0x1c0000000)
    (cond (nat_lt 0x10000000 (b % 0x20000000)) (b / 0x20000000 - 0x1c0000000 + 1)
    (b / 0x20000000 - 0x1c0000000 + (b / 0x20000000 - 0x1c0000000) % 2))))

-- an f64 above 0 as the f32 nearest to it
unfoldable pub narrowed : Float → Float
unfolding narrow_pattern
narrowed x = cond (lt (fin false 0 (pos 0)) x) (from_bits binary32 (narrow_pattern (to_bits binary64 x))) (fin false 0 (pos 0))

-- digits over a power of ten, one division of f64
abbrev pub quotient_of : ℕ → ℕ → Float
quotient_of digits places = div binary64 (of_int binary64 (pos digits)) (of_int binary64 (pos (10 ^ min places 15)))

abbrev pub signed : Bool → Float → Float
signed true x = neg x
signed false x = x

abbrev pub value_of : Decimal → Float
value_of d = signed d.negative (narrowed (quotient_of d.digits d.places))
