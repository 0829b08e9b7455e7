-- Arithmetic of f32 as the definitions write it: each operation is IEEE 754's, rounded once to the nearest, ties to even.
use Rattle.std.specs.Prelude.{ℕ, false, Float}
use Rattle.std.specs.Float.{binary32}
use Rattle.std.specs.Float.Ieee.{round, add, sub, mul, div}

infixl 6 ◌⊕◌
infixl 6 ◌⊖◌
infixl 7 ◌⊗◌
infixl 7 ◌⊘◌
abbrev pub ◌⊕◌ : Float → Float → Float
x ⊕ y = add binary32 x y

abbrev pub ◌⊖◌ : Float → Float → Float
x ⊖ y = sub binary32 x y

abbrev pub ◌⊗◌ : Float → Float → Float
x ⊗ y = mul binary32 x y

abbrev pub ◌⊘◌ : Float → Float → Float
x ⊘ y = div binary32 x y

-- the f32 nearest to a / c: a number of the source, 0.05 as `quotient 5 100`
abbrev pub quotient : ℕ → ℕ → Float
quotient a c = round binary32 false a c
