-- `roots::each_by_guess` meets its contract. Assumes nothing.
use Rattle.float.proofs.Column.{tested}
use Rattle.float.proofs.roots.each_by_guess.Goals as goal

pub returns-else-faults-ne0 : goal.returns-else-faults-ne0
returns-else-faults-ne0 c = tested _ _ c.fill_each.ensures (c.faults.ensures c.if-faults-ne0.false)
