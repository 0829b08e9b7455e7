-- Retune: another sample rate for a voice that goes on, with questions 13 and 11. A refusal returns the voice as given.
use Rattle.std.specs.Prelude.{ℕ, Float}
use Rattle.voice.specs.Bands.{init_lists}
use Rattle.voice.specs.Question.{ask, accepted}
use Rattle.voice.specs.Voice.{rate_ok, keeps_rules, voice_of}
use Rattle.voice.specs.declared.answer.Played.{Played}
use Rattle.voice.specs.declared.voice.Setting.{Setting}
use Rattle.voice.specs.declared.voice.Voice.{Voice}

-- a voice's numbers with another sample rate
abbrev pub with_rate : Setting → Float → Setting
with_rate s rate = record {
  blend = s.blend;
  channel = s.channel;
  count = s.count;
  k = s.k;
  m = s.m;
  j = s.j;
  live_count = s.live_count;
  sample_rate = rate;
  live = s.live;
}

-- the rate, and what `init` gives at it for the voice's own centres. All else is kept: the running state, and every other place.
abbrev pub retuned : Voice → Float → Voice
retuned v rate = voice_of (with_rate v.set rate) (init_lists v.lists v.set.j rate) v.partials v.noise v.state

-- question 11, which the call's own argument answers
unfoldable pub rate_question : Float → ℕ
rate_question rate = ask (rate_ok rate) 11 0

unfoldable pub retune_of : Voice → Float → Played
retune_of v rate =
    let q = ask (keeps_rules v) 13 (rate_question rate) in
    record { number = q; voice = accepted q (retuned v rate) v }
