-- The larger and the smaller of two floats, as Rust's `f32::max` and `f32::min`: a NaN gives the other operand, and two NaNs give NaN.
-- Of two equal floats the answer is the first operand. So it is for the two zeros: the maximum of -0 and 0 is -0, that of 0 and -0 is 0.
-- Rust leaves that open.
use Rattle.std.specs.Prelude.{cond, Float}
use Rattle.std.specs.Float.Ieee.{is_nan, lt}

abbrev pub maximum : Float → Float → Float
maximum a b = cond (is_nan a) b (cond (lt a b) b a)

abbrev pub minimum : Float → Float → Float
minimum a b = cond (is_nan a) b (cond (lt b a) b a)
