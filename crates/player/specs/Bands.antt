-- Which bands of a voice tick: of a single voice all of them, whatever its list of live bands says; of a blend those of the list.
-- A single voice that was made has all its bands in the list, so it is played as it stands.
use Rattle.std.specs.Prelude.{cond, ℕ, List, eqb}
use Rattle.voice.specs.Limits.{max_bands}
use Rattle.voice.specs.Lists.{up_to, padded}
use Rattle.voice.specs.Voice.{voice_of}
use Rattle.voice.specs.declared.voice.Setting.{Setting}
use Rattle.voice.specs.declared.voice.Voice.{Voice}

-- bands 0 to j - 1, in as many places as a list of live bands has
abbrev pub all_bands : ℕ → List ℕ
all_bands j = padded max_bands 0 (up_to (λ b. b) j)

abbrev pub all_live : Setting → Setting
all_live s = record {
  blend = s.blend;
  channel = s.channel;
  count = s.count;
  k = s.k;
  m = s.m;
  j = s.j;
  live_count = s.j;
  sample_rate = s.sample_rate;
  live = all_bands s.j;
}

-- a voice's numbers as it is played by them, and the voice with these
abbrev pub ticking_set : Setting → Setting
ticking_set s = cond (eqb s.blend 0) (all_live s) s

abbrev pub ticking : Voice → Voice
ticking v = voice_of (ticking_set v.set) v.lists v.partials v.noise v.state
