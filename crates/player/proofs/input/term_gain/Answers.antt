-- `term_gain` meets its contract.
use lib.Ieee.{of_bits, round}
use borrow.Author.Tests.{eq-eqb, ne_eqb}
use Rattle.player.proofs.input.term_gain.Goals as goal

pub returns-then-blend-eq0 : goal.returns-then-blend-eq0
returns-then-blend-eq0 c = rw (eq-eqb _ _ c.if-blend-eq0.true)

pub returns-else-blend-eq0 : goal.returns-else-blend-eq0
unfolding of_bits round
returns-else-blend-eq0 c = rw (ne_eqb _ _ c.if-blend-eq0.false)
