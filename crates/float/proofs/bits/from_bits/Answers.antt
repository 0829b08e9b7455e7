-- `bits::from_bits` meets its contract. Assumes nothing.
use Rattle.std.proofs.Common.{sym, rules}
use Rattle.std.proofs.lemmas.Float.{not_nan_f32_bits}
use lib.Ieee.{of_bits}
use Rattle.float.proofs.Finite.{nan_pattern}
use Rattle.float.proofs.bits.from_bits.Goals as goal

pub float_from_bits-result : goal.float_from_bits-result
float_from_bits-result c = not_nan_f32_bits _ (search rules)

pub returns-then-n-gt2139095040 : goal.returns-then-n-gt2139095040
unfolding of_bits
returns-then-n-gt2139095040 c = sym (nan_pattern c.args.n c.if-n-gt2139095040.true)
