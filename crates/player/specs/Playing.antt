-- Playing, after questions 13 to 16 in their order. A refusal returns the voice as given and writes no sample.
use Rattle.std.specs.Prelude.{ℕ, ◌≡◌, List, length, Float}
use Rattle.voice.specs.Input.{Call}
use Rattle.voice.specs.Question.{play_question, accepted}
use Rattle.voice.specs.Voice.{with_state}
use Rattle.player.specs.Bands.{ticking}
use Rattle.player.specs.Block.{block_out, block_end}
use Rattle.voice.specs.declared.answer.Played.{Played}
use Rattle.voice.specs.declared.voice.Voice.{Voice}

-- the number of the first question answered no, or 0, and the voice: at the end of channel 0 where the play is accepted, else as given.
-- `len` is the length of the output slice.
unfoldable pub played : Voice → Call → ℕ → Played
played v c len =
    let q = play_question v c len in
    record { number = q; voice = accepted q (with_state v (block_end (ticking v) c)) v }

-- every sample of the output slice at exit
unfoldable pub played_out : Voice → Call → List Float → List Float
played_out v c out = accepted (play_question v c (length out)) (block_out (ticking v) c) out

-- what a play promises, where `out` is the output at the call and `out'` at the return. The answer `p` has the number that is answered and
-- the voice after the play: the one that lies there at the return.
pub record Plays (v : Voice) (c : Call) (out : List Float) (p : Played) (out' : List Float) : Type 0 where
  pub answered : p ≡ played v c (length out)
  pub written : out' ≡ played_out v c out
