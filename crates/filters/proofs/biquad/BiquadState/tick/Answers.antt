-- `tick` meets its contract.
use Rattle.std.proofs.Common.{refl}
use Rattle.filters.specs.Biquad.{tick_of}
use Rattle.filters.proofs.biquad.BiquadState.tick.Goals as goal

pub returns : goal.returns
unfolding tick_of
returns c = refl
