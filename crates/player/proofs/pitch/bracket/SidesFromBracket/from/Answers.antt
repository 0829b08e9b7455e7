-- The `from` of sides from a bracket meets its contract.
use lib.Ieee.{of_bits, round}
use Rattle.player.proofs.pitch.bracket.SidesFromBracket.from.Goals as goal

pub returns-in-One : goal.returns-in-One
unfolding of_bits round
returns-in-One c = rw c.in-One.is
