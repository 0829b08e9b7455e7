-- A plan's answer goes in as a gain input, so no running state changes with the plan. Three statements of it, for every voice: of two
-- plays, of a play with a plan's gain, and of two lists of calls.
use Rattle.std.specs.Prelude.{ℕ, ◌<◌, ◌≡◌, ◌⊎◌, List, length, get_or, replicate, Float}
use Rattle.voice.specs.declared.shape.Shape.{Shape}
use Rattle.voice.specs.declared.voice.Voice.{Voice}
use Rattle.voice.specs.Input.{Call, call}
use Rattle.voice.specs.Question.{call_question}
use Rattle.player.specs.Playing.{played}
use Rattle.quiet.specs.declared.plan.Plan.{Plan}
use Rattle.quiet.specs.Plan.{quiet_gain}
use Rattle.quiet.specs.Answer.{gain_of}
use Rattle.claim.specs.Calls.{PlayCall, call_of, out_length, VoiceCall, playing, resetting, run}

-- two plays that differ only in their gain inputs: in whether these are connected, and in what they hold
pub record AlikeButGains (c d : Call) : Type 0 where
  pub samples : c.shape.samples ≡ d.shape.samples
  pub channels : c.shape.channels ≡ d.shape.channels
  pub freq-channels : c.shape.freq ≡ d.shape.freq
  pub freq : c.freq ≡ d.freq

-- Where both are accepted, both leave the same voice: the same running state, and all else as it was. `m` and `n` are the lengths of their
-- outputs.
abbrev pub GainsAside : Type 0
GainsAside =
    (v : Voice) (c d : Call) (m n : ℕ)
    → AlikeButGains c d
    → (played v c m).number ≡ 0
    → (played v d n).number ≡ 0
    → (played v c m).voice ≡ (played v d n).voice

-- a constant gain input of one channel, of the block's length
abbrev pub constant : Call → Float → List Float
constant c g = replicate c.shape.samples g

-- a play with this as its gain input 0, the others as they are
abbrev pub with_gain : Call → Float → Call
with_gain c g =
    let b = c.shape in
    let shape : Shape = record {
      samples = b.samples;
      channels = b.channels;
      freq = b.freq;
      g0 = 1;
      g1 = b.g1;
      g2 = b.g2;
      g3 = b.g3;
    } in
    call shape c.freq (constant c g) c.g1 c.g2 c.g3

-- A play that is accepted is accepted with a plan's gain too, whatever the plan and the minute, refused ones included, and leaves the same
-- voice.
abbrev pub PlanAside : Type 0
PlanAside =
    (p : Plan) (w : ℕ) (v : Voice) (c : Call) (len : ℕ)
    → (played v c len).number ≡ 0
    → played v (with_gain c (gain_of (quiet_gain p w))) len ≡ played v c len

-- two calls that are plays, alike but for their gains, and answered alike: accepted both, or refused by the same number
pub record OtherGains (c d : VoiceCall) : Type 0 where
  pub one : PlayCall
  pub other : PlayCall
  pub is_one : c ≡ playing one
  pub is-other : d ≡ playing other
  pub alike : AlikeButGains (call_of one) (call_of other)
  pub answered : call_question (call_of one) (out_length one) ≡ call_question (call_of other) (out_length other)

-- the same call, or a play with other gains
abbrev pub Alike : VoiceCall → VoiceCall → Type 0
Alike c d = (c ≡ d) ⊎ OtherGains c d

-- two lists of calls that are alike, call by call
pub record AlikeCalls (cs ds : List VoiceCall) : Type 0 where
  pub as_many : length cs ≡ length ds
  pub each : (i : ℕ) → i < length cs → Alike (get_or cs i resetting) (get_or ds i resetting)

-- After either list the voice is the same, refused calls included.
abbrev pub GainsAsideThroughout : Type 0
GainsAsideThroughout = (v : Voice) (cs ds : List VoiceCall) → AlikeCalls cs ds → run v cs ≡ run v ds
