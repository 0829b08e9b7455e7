-- What is left of a number when its whole part is taken away.
use Rattle.std.specs.Prelude.{pos, Float}
use Rattle.std.specs.Float.{binary32}
use Rattle.std.specs.Float.Ieee.{sub, of_int, to_unsigned}

-- x less its whole part, for x from 0 to 2 ^ 24
abbrev pub fraction : Float → Float
fraction x = sub binary32 x (of_int binary32 (pos (to_unsigned 64 x)))
