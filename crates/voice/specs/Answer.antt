-- What a call on a voice answers: nothing, or the question that was answered no, which has a number.
use Rattle.std.specs.Prelude.{ℕ, Result, Ok, Err}
use Rattle.voice.specs.declared.answer.CallError.{CallError}
use Rattle.voice.specs.declared.answer.CallError.TheVariants.{VoiceRules, Rate, Output, Input, Frequency}

-- the number of the question that was answered no
abbrev pub error_number : CallError → ℕ
error_number VoiceRules = 13
error_number Rate = 11
error_number Output = 14
error_number Input = 15
error_number Frequency = 16

-- the same of an answer: 0 where every question was answered yes
abbrev pub call_number : Result (Unit {0}) CallError → ℕ
call_number (Ok u) = 0
call_number (Err e) = error_number e
