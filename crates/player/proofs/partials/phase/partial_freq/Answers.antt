-- `partial_freq` meets its contract.
use native.Mathlib.Omega.{arith}
use lib.IntN.{pos}
use Rattle.float.proofs.Ints.{abs-in-float}
use Rattle.player.proofs.partials.phase.partial_freq.Goals as goal

pub int_to_float-result : goal.int_to_float-result
int_to_float-result c = abs-in-float (pos c.args.m) (omega arith)
