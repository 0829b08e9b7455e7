-- Each answer of a call on a voice has a number of its own: what the contracts say of an answer fixes it. Assumes nothing.
use Prim.Native.Nat.{ℕ}
use mathlib.Core.Bool.{cond}
use mathlib.Core.Path.{◌≡◌, refl, ap, sym, ◌∙◌}
use lib.Dec.{eqb}
use Rattle.std.specs.Prelude.{Result, Ok, Err}
use Rattle.voice.specs.declared.answer.CallError.{CallError}
use Rattle.voice.specs.Answer.{call_number}

-- the answer with a number
abbrev answer_of : ℕ → Result (Unit {0}) CallError
answer_of n =
    cond (eqb n 0) (Ok tt)
    (cond (eqb n 11) (Err CallError.Rate)
    (cond (eqb n 13) (Err CallError.VoiceRules)
    (cond (eqb n 14) (Err CallError.Output)
    (cond (eqb n 15) (Err CallError.Input)
    (Err CallError.Frequency)))))

answer_back : (a : Result (Unit {0}) CallError) → answer_of (call_number a) ≡ a
answer_back (Ok u) = refl
answer_back (Err CallError.VoiceRules) = refl
answer_back (Err CallError.Rate) = refl
answer_back (Err CallError.Output) = refl
answer_back (Err CallError.Input) = refl
answer_back (Err CallError.Frequency) = refl

-- LAW
pub call-answers-apart : (a b : Result (Unit {0}) CallError) → call_number a ≡ call_number b → a ≡ b
call-answers-apart a b e = sym (answer_back a) ∙ ap answer_of e ∙ answer_back b
