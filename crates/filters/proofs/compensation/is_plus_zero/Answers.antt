-- `is_plus_zero` meets its contract.
use Rattle.std.proofs.Common.{◌∙◌}
use lib.Ieee.{of_bits}
use Rattle.filters.proofs.ZeroLaws.{zero-sign, not-plus-zero}
use Rattle.filters.proofs.compensation.is_plus_zero.Goals as goal

pub returns-then-x : goal.returns-then-x
unfolding of_bits
returns-then-x c = c.is_sign_positive.ensures ∙ zero-sign c.args.x c.if-x.true

pub returns-else-x : goal.returns-else-x
unfolding of_bits
returns-else-x c = c.if-x.false ∙ not-plus-zero c.args.x c.if-x.false
