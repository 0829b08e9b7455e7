-- `near::inverse` is safe. Assumes nothing.
use Prim.Native.Nat.{ℕ, ◌-◌, ◌/◌, ◌<◌}
use native.Mathlib.Omega.{arith}
use Rattle.float.proofs.Patterns.{pattern-no-nan}
use Rattle.float.proofs.near.inverse.Goals as goal

low : (b : ℕ) → 1595932665 - b / 2 < 2139095040
low b = omega arith

pub float_from_bits-a : goal.float_from_bits-a
float_from_bits-a c = pattern-no-nan (1595932665 - c.args.b / 2) (low c.args.b)
