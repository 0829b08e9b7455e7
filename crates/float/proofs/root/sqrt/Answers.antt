-- `root::sqrt` meets its contract. Assumes nothing.
use mathlib.Core.Path.{sym, ◌∙◌}
use lib.Ieee.{of_bits}
use Rattle.float.proofs.Operands.{sqrt-normal}
use Rattle.float.proofs.root.sqrt.Goals as goal

pub normal_root-requires : goal.normal_root-requires
unfolding of_bits
normal_root-requires c = (sqrt-normal c.args.x c.if-x.true c.if-x-2.true).0

pub returns-then-x-2 : goal.returns-then-x-2
unfolding of_bits
returns-then-x-2 c = c.normal_root.ensures ∙ sym (sqrt-normal c.args.x c.if-x.true c.if-x-2.true).1
