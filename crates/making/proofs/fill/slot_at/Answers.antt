use mathlib.Core.Path.{refl}
use lib.Ieee.{of_bits, round}
use Rattle.making.proofs.fill.slot_at.Goals as goal

pub returns-in-None : goal.returns-in-None
unfolding of_bits round
returns-in-None g c =
    rw (← c.WIDTH.ensures, ← c.slot_channel.ensures, c.in-None.is) refl
