-- `roots::fill_each` meets its contract. Assumes nothing.
use Rattle.std.proofs.Common.{arith}
use Rattle.float.proofs.Column.{zipped}
use Rattle.float.proofs.roots.fill_each.Goals as goal

pub returns : goal.returns
returns g c = zipped _ _ _ c.loop-i.invariant.0 (λ i l. c.loop-i.invariant.1 i (omega arith))
