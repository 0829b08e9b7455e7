-- What a plan's answers mean: each has its question's number and the window that it names (0 where it names none), and a gain.
use Rattle.std.specs.Prelude.{Result, Ok, Err, Float}
use Rattle.float.specs.F32.{quotient}
use Rattle.wire.specs.Parse.{Refusal, refusal}
use Rattle.quiet.specs.declared.answer.Gain.{Gain}
use Rattle.quiet.specs.declared.answer.PlanError.{PlanError}

abbrev pub plan_refusal : Result Gain PlanError → Refusal
plan_refusal (Ok g) = refusal 0 g.window 0
plan_refusal (Err (PlanError.BadWindow i)) = refusal 18 i 0
plan_refusal (Err (PlanError.BadStep i)) = refusal 19 i 0
plan_refusal (Err PlanError.BadMinute) = refusal 20 0 0

-- the gain to play with: of a refusal it is 1, as without a plan, so that no plan silences a pole by being refused
abbrev pub gain_of : Result Gain PlanError → Float
gain_of (Ok g) = g.gain
gain_of (Err e) = quotient 1 1
