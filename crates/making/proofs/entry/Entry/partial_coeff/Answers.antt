use mathlib.Core.Path.{sym, ◌∙◌}
use lib.Ieee.{of_bits, round}
use Rattle.making.proofs.CoeffLaws.{partial_there, partial-lacking}
use Rattle.making.proofs.entry.Entry.partial_coeff.Goals as goal

pub returns-then-i-self : goal.returns-then-i-self
returns-then-i-self c =
    c.from_bits.ensures ∙ rw c.coefficient.ensures (sym (partial_there c.args.self.now.image.now c.args.self.now.view _ _ c.if-i-self.true))

pub returns-else-i-self : goal.returns-else-i-self
unfolding of_bits round
returns-else-i-self c =
    sym (partial-lacking c.args.self.now.image.now c.args.self.now.view _ _ c.if-i-self.false)
