use Rattle.std.proofs.Common.{ap}
use lib.Ieee.{Float, of_bits, round}
use Rattle.float.specs.F32.{◌⊘◌, quotient}
use Rattle.quiet.specs.Window.{step_gain}
use Rattle.quiet.proofs.window.step_gain.Goals as goal

pub returns : goal.returns
unfolding step_gain of_bits round
returns c = ap (λ (x : Float). x ⊘ quotient 100 1) c.nearest_u32_to_f32.ensures
