-- `fault::fault` meets its contract. Assumes nothing.
use mathlib.Core.Path.{sym, ◌∙◌}
use lib.Dec.{lit≤}
use lib.Ieee.{binary32, fits, of_bits}
use Rattle.float.proofs.Finite.{shown}
use Rattle.float.proofs.Operands.{sqrt-zero}
use Rattle.float.proofs.Tested.{root-by-pattern}
use Rattle.float.proofs.fault.fault.Goals as goal

pub returns-then-x-2 : goal.returns-then-x-2
unfolding of_bits
returns-then-x-2 c =
    (c.square_fault-s.ensures.0, λ z k. root-by-pattern c.args.x c.args.y c.bits_above_zero.result c.bits_above_zero-2.result (shown (fits binary32 c.args.y) c.well_formed.1.0.1) c.if-x.true c.if-x-2.true c.bits_above_zero.ensures.0 c.bits_above_zero-2.ensures.0 (c.square_fault-s.ensures.1 z))

pub returns-then-x-3 : goal.returns-then-x-3
unfolding of_bits
returns-then-x-3 c = (lit≤ tt, λ z k. k c.if-x.false ∙ sym (sqrt-zero c.args.x c.if-x-3.true))
