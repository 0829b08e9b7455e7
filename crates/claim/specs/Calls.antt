-- Lists of calls on a voice, and what they feed the machine.
use Rattle.std.specs.Prelude.{ℕ, ◌<◌, List, [], ◌∷◌, ◌++◌, length, get_or, take, T, Float}
use Rattle.std.specs.Float.{nan, binary32}
use Rattle.std.specs.Float.Ieee.{fits}
use Rattle.voice.specs.declared.shape.Shape.{Shape}
use Rattle.voice.specs.declared.voice.Voice.{Voice}
use Rattle.voice.specs.Lists.{up_to}
use Rattle.voice.specs.Voice.{memory_at}
use Rattle.voice.specs.Input.{Call, call, frequency_at}
use Rattle.voice.specs.Question.{call_question, accepted}
use Rattle.voice.specs.Restart.{reset_of, reseed_of}
use Rattle.voice.specs.Retuning.{rate_question, retune_of}
use Rattle.player.specs.Playing.{played}
use Rattle.making.specs.Making.{Making}
use Rattle.claim.specs.Machine.{bands_for, Machine, Event, frequency, reset, seed, retune}

-- a slice of floats, as one is lent: each is an f32 value
abbrev pub AllF32 : List Float → Type 0
AllF32 l = (i : ℕ) → i < length l → T (fits binary32 (get_or l i nan))

pub record F32List : Type 0 where
  pub list : List Float
  pub are32 : AllF32 list

-- what a play is called with, all but the voice: the block's numbers, and the slices of the frequency, of the four gains and of the output
pub record PlayCall : Type 0 where
  pub shape : Shape
  pub freq : F32List
  pub g0 : F32List
  pub g1 : F32List
  pub g2 : F32List
  pub g3 : F32List
  pub out : F32List

abbrev pub call_of : PlayCall → Call
call_of p = call p.shape p.freq.list p.g0.list p.g1.list p.g2.list p.g3.list

abbrev pub out_length : PlayCall → ℕ
out_length p = length p.out.list

-- what a voice is called with: of a reseed it is the seed, of a retune the sample rate
pub data VoiceCall : Type 0 where
  playing : PlayCall → VoiceCall
  resetting : VoiceCall
  reseeding : ℕ → VoiceCall
  retuning : Float → VoiceCall

-- the voice that a call returns, by the definitions that the contracts of play, reset, reseed and retune cite
unfoldable pub after : Voice → VoiceCall → Voice
after v (playing p) = (played v (call_of p) (out_length p)).voice
after v resetting = (reset_of v).voice
after v (reseeding n) = (reseed_of v n).voice
after v (retuning rate) = (retune_of v rate).voice

-- each call is handed the voice that the call before it returned
unfoldable pub run : Voice → List VoiceCall → Voice
run v [] = v
run v (c ∷ cs) = run (after v c) cs

-- what a call gives the machine: of an accepted play the frequencies of channel 0, a reset, a seed, of an accepted retune the rate and the
-- bands. A refused play or retune gives nothing; whether it is refused goes by the call's own arguments, by questions 14 to 16 and by
-- question 11. No gain reaches the machine. It is handed the making, since it sees no voice: the bands of a retune are those of the making's
-- own centres.
unfoldable pub fed_by : Making → VoiceCall → List Event
fed_by m (playing p) =
    accepted (call_question (call_of p) (out_length p)) (up_to (λ i. frequency (frequency_at (call_of p) 0 i)) p.shape.samples) []
fed_by m resetting = reset ∷ []
fed_by m (reseeding n) = seed n ∷ []
fed_by m (retuning rate) = accepted (rate_question rate) (retune rate (bands_for m.centres rate) ∷ []) []

unfoldable pub fed : Making → List VoiceCall → List Event
fed m [] = []
fed m (c ∷ cs) = fed_by m c ++ fed m cs

-- what of a voice's state is in use
abbrev pub running : Voice → Machine
running v = record {
  phases = take v.set.m v.state.phases;
  memories = up_to (memory_at v.state.memories) v.set.j;
  noise = v.state.rng.state;
}
