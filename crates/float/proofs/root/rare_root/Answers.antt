-- `root::rare_root` meets its contract. Assumes nothing.
use mathlib.Core.Path.{sym, ◌∙◌}
use lib.Ieee.{of_bits}
use Rattle.float.proofs.Operands.{sqrt-positive, sqrt-infinite, sqrt-zero, sqrt-none}
use Rattle.float.proofs.root.rare_root.Goals as goal

pub positive_root-requires : goal.positive_root-requires
unfolding of_bits
positive_root-requires c = (sqrt-positive c.args.x c.if-x.true (sym c.if-is_finite.ensures)).0

pub returns-then-is_finite : goal.returns-then-is_finite
unfolding of_bits
returns-then-is_finite c = c.positive_root.ensures ∙ sym (sqrt-positive c.args.x c.if-x.true (sym c.if-is_finite.ensures)).1

pub returns-else-is_finite : goal.returns-else-is_finite
unfolding of_bits
returns-else-is_finite c = sym (sqrt-infinite c.args.x c.if-x.true (sym c.if-is_finite.ensures))

pub returns-then-x-2 : goal.returns-then-x-2
unfolding of_bits
returns-then-x-2 c = sym (sqrt-zero c.args.x c.if-x-2.true)

pub returns-else-x-2 : goal.returns-else-x-2
unfolding of_bits
returns-else-x-2 c = sym (sqrt-none c.args.x c.if-x.false c.if-x-2.false)
