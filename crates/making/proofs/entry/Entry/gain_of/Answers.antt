use lib.Ieee.{of_bits, round}
use borrow.Author.Rules.{rules}
use Rattle.making.proofs.CoeffLaws.{gain-is}
use Rattle.making.proofs.entry.Entry.gain_of.Goals as goal

pub returns : goal.returns
unfolding of_bits round
returns c = rw (← c.metadata_value.ensures) (gain-is c.metadata_value.result c.map_or.result _ (λ b p. search rules) c.map_or.ensures)
