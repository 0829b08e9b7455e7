-- Linear interpolation, in the order of the Rust's `lerp`: a + t * (b - a), each operation rounded once.
use Rattle.std.specs.Prelude.{Float}
use Rattle.std.specs.Float.{binary32}
use Rattle.std.specs.Float.Ieee.{add, mul, sub}

abbrev pub lerp : Float → Float → Float → Float
lerp a b t = add binary32 a (mul binary32 t (sub binary32 b a))
