-- A sample rate that a voice can have.
use Rattle.std.specs.Prelude.{Bool, ◌&&◌, Float}
use Rattle.std.specs.Float.Ieee.{le}
use Rattle.float.specs.F32.{quotient}

-- question 11: finite and 8,000 to 192,000 (a NaN and an infinity fail)
abbrev pub rate_ok : Float → Bool
rate_ok r = le (quotient 8000 1) r && le r (quotient 192000 1)
