-- A plan's answer as it crosses to C: the question's number and the window that it names, and a gain, which a refusal has too.
use Rattle.std.specs.Prelude.{Result}
use Rattle.quiet.specs.Answer.{plan_refusal, gain_of}
use Rattle.quiet.specs.declared.answer.Gain.{Gain}
use Rattle.quiet.specs.declared.answer.PlanError.{PlanError}
use Rattle.sounder.specs.Answer.{refusal_answer}
use Rattle.sounder.specs.declared.plans.QuietAnswer.{QuietAnswer}

abbrev pub quiet_answer : Result Gain PlanError → QuietAnswer
quiet_answer a = record { answer = refusal_answer (plan_refusal a); gain = gain_of a }
