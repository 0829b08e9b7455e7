-- The square root of an `f32`, worked out by whole numbers. That it is the float nearest to the root is the law `sqrt-nearest`.
use Rattle.std.specs.Prelude.{ℕ, zero, suc, ◌+◌, ◌*◌, ◌/◌, ◌%◌, true, false, cond, pos, negsuc, eqb, Float}
use Rattle.std.specs.Float.{nan, inf, fin, binary32}
use Rattle.std.specs.Float.Ieee.{of_bits, to_bits, lt, mul}
use Rattle.float.specs.Root.{root}

-- the smallest normal float, 2 ^ -126
abbrev pub smallest : Float
smallest = fin false 1 (negsuc 125)

-- the 24 digits of a pattern's significand, times 2 ^ 26 or 2 ^ 25, whichever leaves an even exponent
abbrev pub scaled : ℕ → ℕ
scaled b = (b % 8388608 + 8388608) * cond (eqb (b / 8388608 % 2) 0) 67108864 33554432

-- the root of that has 25 digits; it is rounded to 24
abbrev pub significand : ℕ → ℕ
significand b = (root (scaled b) + 1) / 2

-- the pattern of the root: half the exponent, and the significand, whose highest digit adds one to the exponent's field
abbrev pub root_bits : ℕ → ℕ
root_bits b = ((b / 8388608 + 1) / 2 + 62) * 8388608 + significand b

abbrev pub normal_root : Float → Float
normal_root x = of_bits binary32 (root_bits (to_bits binary32 x))

-- a positive float that is too small to be normal is multiplied by 2 ^ 24 first, and the root by 2 ^ -12; both products are exact
abbrev pub positive_root : Float → Float
positive_root x = cond (lt x smallest) (mul binary32 (normal_root (mul binary32 x (fin false 1 (pos 24)))) (fin false 1 (negsuc 11)))
    (normal_root x)

-- -0 and 0 are their own roots; what is below 0 has none
unfoldable pub sqrt : Float → Float
sqrt nan = nan
sqrt (inf true) = nan
sqrt (inf false) = inf false
sqrt (fin s zero e) = fin s zero e
sqrt (fin true (suc m) e) = nan
sqrt (fin false (suc m) e) = positive_root (fin false (suc m) e)
