-- How the code goes about the roots of a column. Cited by private functions only.
use Rattle.std.specs.Prelude.{◌≡◌, false, Float}
use Rattle.std.specs.Float.Ieee.{le}
use Rattle.float.specs.Sqrt.{smallest, sqrt}

-- y is the root of x
abbrev pub IsRoot : Float → Float → Type 0
IsRoot x y = y ≡ sqrt x

-- y is x where x is not at least the smallest normal float: where it is a zero, a subnormal, a negative or a NaN
abbrev pub Kept : Float → Float → Type 0
Kept x y = le smallest x ≡ false → y ≡ x
