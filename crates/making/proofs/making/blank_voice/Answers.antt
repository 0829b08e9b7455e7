use mathlib.Core.Path.{refl}
use lib.Ieee.{of_bits, round}
use Rattle.making.specs.Making.{blank_voice}
use Rattle.making.proofs.making.blank_voice.Goals as goal

pub returns : goal.returns
unfolding blank_voice of_bits round
returns c = refl
