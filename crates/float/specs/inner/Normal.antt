-- Floats with no sign, and those of them that are normal. Cited by private functions only.
use Rattle.std.specs.Prelude.{Bool, true, false, not, ◌&&◌, pos, Float}
use Rattle.std.specs.Float.{nan, inf, fin}
use Rattle.std.specs.Float.Ieee.{lt}
use Rattle.float.specs.Sqrt.{smallest}

-- finite and with no sign: 0 is, -0 is not
abbrev pub plain : Float → Bool
plain nan = false
plain (inf s) = false
plain (fin true m e) = false
plain (fin false m e) = true

-- 0, with no sign
abbrev pub plus_zero : Float
plus_zero = fin false 0 (pos 0)

-- finite, with no sign, and not below the smallest normal float
abbrev pub normal : Float → Bool
normal x = plain x && not (lt x smallest)
