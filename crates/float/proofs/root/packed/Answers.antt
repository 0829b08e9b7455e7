-- `root::packed` meets its contract: the pattern is below the infinity's. Assumes nothing.
use Prim.Native.Nat.{◌+◌, ◌*◌, ◌/◌}
use Rattle.float.proofs.Patterns.{pattern-no-nan}
use Rattle.float.proofs.Nearest.{made-under}
use Rattle.float.proofs.root.packed.Goals as goal

pub float_from_bits-result : goal.float_from_bits-result
float_from_bits-result c = pattern-no-nan (((c.args.b / 8388608 + 1) / 2 + 62) * 8388608 + c.args.h) (made-under c.args.b c.args.h c.requires.0 c.requires.1)
