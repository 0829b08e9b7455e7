-- `clean` meets its contract.
use mathlib.Core.Path.{sym, ◌∙◌}
use lib.Ieee.{of_bits, round}
use Rattle.voice.specs.Input.{cleaned}
use Rattle.player.proofs.input.clean.Goals as goal

pub returns-then-not-is_finite : goal.returns-then-not-is_finite
unfolding cleaned of_bits round
returns-then-not-is_finite c = rw (sym c.is_finite.ensures ∙ c.if-not-is_finite.true)

pub returns-then-f : goal.returns-then-f
unfolding cleaned of_bits round
returns-then-f c = rw (sym c.is_finite.ensures ∙ c.if-not-is_finite.false, c.if-f.true)

pub returns-else-f : goal.returns-else-f
unfolding cleaned of_bits round
returns-else-f c = rw (sym c.is_finite.ensures ∙ c.if-not-is_finite.false, c.if-f.false)
