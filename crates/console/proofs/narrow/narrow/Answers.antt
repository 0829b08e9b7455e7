use Rattle.console.proofs.NarrowLaws.{narrow-lt, above_no_nan}
use Rattle.float.proofs.Patterns.{pattern-no-nan}
use Rattle.console.specs.Narrow.{narrowed}
use lib.Ieee.{of_bits}
use Rattle.console.proofs.narrow.narrow.Goals as goal

pub float_to_bits-x : goal.float_to_bits-x
float_to_bits-x c =
    above_no_nan _ _ c.if-x.true

pub float_from_bits-result : goal.float_from_bits-result
float_from_bits-result c =
    rw c.pattern.ensures (pattern-no-nan _ (narrow-lt _))

pub returns-then-x : goal.returns-then-x
unfolding narrowed of_bits
returns-then-x c =
    simp (c.if-x.true, c.pattern.ensures)

pub returns : goal.returns
unfolding narrowed of_bits
returns c =
    simp c.if-x.false
