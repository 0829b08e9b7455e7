-- Questions 13 to 16, which a call on a voice is asked in their order, and what a call answers.
use Rattle.std.specs.Prelude.{ℕ, zero, suc, ◌*◌, Bool, true, false, ◌&&◌, leb, eqb}
use Rattle.voice.specs.Input.{Call, inputs_ok, frequencies_ok}
use Rattle.voice.specs.Limits.{max_samples, max_channels}
use Rattle.voice.specs.Voice.{keeps_rules}
use Rattle.voice.specs.declared.voice.Voice.{Voice}

-- is it so? No: the question's number; yes: what follows. 0 is "all answered yes".
unfoldable pub ask : Bool → ℕ → ℕ → ℕ
ask true n rest = rest
ask false n rest = n

-- question 14: is the output a block of at most 128 samples by 1 to 8 channels, its slice exactly samples × channels long?
abbrev pub block_ok : ℕ → ℕ → ℕ → Bool
block_ok n channels len = leb n max_samples && (leb 1 channels && (leb channels max_channels && eqb len (channels * n)))

-- questions 14 to 16, which the call's own arguments and the length of its output answer
unfoldable pub call_question : Call → ℕ → ℕ
call_question c len =
    ask (block_ok c.shape.samples c.shape.channels len) 14
    (ask (inputs_ok c) 15
    (ask (frequencies_ok c.shape.freq c.freq) 16 0))

-- the first question that is answered no, or 0
unfoldable pub play_question : Voice → Call → ℕ → ℕ
play_question v c len = ask (keeps_rules v) 13 (call_question c len)

-- by the question's number: what an accepted call leaves, or what was given
abbrev pub accepted : {A : Type 0} → ℕ → A → A → A
accepted zero after given = after
accepted (suc q) after given = given
