-- `of` meets its contract.
use Rattle.std.proofs.Common.{refl}
use lib.Ieee.{of_bits, round}
use Rattle.player.proofs.constants.Constants.of.Goals as goal

pub returns : goal.returns
unfolding of_bits round
returns c = refl
