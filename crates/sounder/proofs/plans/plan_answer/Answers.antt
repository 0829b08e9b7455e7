use Rattle.std.proofs.Common.{refl}
use lib.Ieee.{of_bits, round}
use Rattle.sounder.proofs.plans.plan_answer.Goals as goal

-- the gain of a refusal is 1
pub returns-in-Err : goal.returns-in-Err
unfolding of_bits round
returns-in-Err c =
    rw (c.in-Err.is, c.from.ensures) refl
