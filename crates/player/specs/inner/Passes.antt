-- A channel in two passes: the partials of all its samples first, and then what the live bands add to each.
-- Cited by private functions only: a sample's sum has the same order in both, and the state's parts move each by themselves.
use Rattle.std.specs.Prelude.{ℕ, ◌≤◌, ◌<◌, ◌≡◌, true, List, [], get_or, length, Float}
use Rattle.std.specs.Float.{nan}
use Rattle.filters.specs.inner.Ranges.{Rate}
use Rattle.voice.specs.Lists.{up_to, steps, every}
use Rattle.voice.specs.Input.{Call, inputs_ok, frequencies_ok, part_of, frequency_of, gains_of, frequency_ok, cleaned}
use Rattle.voice.specs.Voice.{list_at, pitches_list, stretches_list, pitch_ok, stretch_ok, phases_ok, bands_ascend, voice_of, state_of}
use Rattle.player.specs.Sound.{moved_phases, moved_memories, moved_rng, partial_sum, noise_sum}
use Rattle.player.specs.Block.{state_at, channel_out, block_out, block_end}
use Rattle.player.specs.inner.Columns.{LiveIn}
use Rattle.filters.specs.declared.rng.Rng.{Rng}
use Rattle.voice.specs.declared.voice.Setting.{Setting}
use Rattle.voice.specs.declared.voice.State.{State}
use Rattle.voice.specs.declared.voice.Voice.{Voice}
use Rattle.voice.specs.declared.inputs.Inputs.{Inputs}
use Rattle.voice.specs.declared.shape.Shape.{Shape}
use Rattle.player.specs.Bands.{ticking_set}
use Rattle.player.specs.declared.timbre.Timbre.{Timbre}
use Rattle.voice.specs.Limits.{max_entries, max_partials, max_bands, max_blended, max_samples, max_channels}

-- ---- what of the voice rules playing needs
-- of the entries, so that every frequency can be looked up and gives steps that a phase can gain
pub record EntriesFit (s : Setting) (lists : List Float) : Type 0 where
  pub sizes : (s.count ≤ max_entries) × (s.m ≤ max_partials) × (s.k ≤ max_blended)
  pub pitches-ok : every (λ i. pitch_ok (get_or (list_at lists pitches_list) i nan)) s.count ≡ true
  pub stretches-ok : every (λ i. stretch_ok (get_or (list_at lists stretches_list) i nan)) s.count ≡ true
  pub rate : Rate s.sample_rate

-- of the live bands: each is one of 16, and none comes twice
pub record LiveFit (s : Setting) : Type 0 where
  pub most : s.live_count ≤ max_bands
  pub inside : LiveIn s.live s.live_count
  pub ascend : bands_ascend s.live s.live_count ≡ true

-- of a channel's frequencies: question 16 is answered yes for each
abbrev pub FrequenciesFit : List Float → Type 0
FrequenciesFit fs = (i : ℕ) → frequency_ok (frequency_of fs i) ≡ true

-- of what the partials of a channel are played from: one entry at least, the phases, and the frequencies of the parts that are read
abbrev pub PartialsFit : Timbre → List Float → Inputs → Type 0
PartialsFit t phases parts =
    EntriesFit t.set.now t.lists.now × (phases_ok phases t.set.now.m ≡ true) × (1 ≤ t.set.now.count) × FrequenciesFit parts.freq.now

-- all that a channel or a block needs of the voice, with the numbers that it is played by
pub record VoiceFits (s : Setting) (lists phases : List Float) : Type 0 where
  pub entries : EntriesFit s lists
  pub live-bands : LiveFit s
  pub phases-ok : phases_ok phases s.m ≡ true

-- of a call: its inputs are as long as its block, and question 16 is answered yes
pub record CallFits (c : Call) : Type 0 where
  pub inputs : inputs_ok c ≡ true
  pub frequencies : frequencies_ok c.shape.freq c.freq ≡ true

-- of a shape: a block, of as many samples and channels as are played at once
abbrev pub BlockFits : Shape → Type 0
BlockFits s = (s.samples ≤ max_samples) × (1 ≤ s.channels) × (s.channels ≤ max_channels)

-- ---- what a channel reads at a sample, and which parts of a call's inputs it reads
abbrev pub frequency_in : Inputs → ℕ → Float
frequency_in parts = frequency_of parts.freq.now

abbrev pub gains_in : Inputs → ℕ → List Float
gains_in parts = gains_of parts.g0.now parts.g1.now parts.g2.now parts.g3.now

pub record PartsOf (c : Call) (ch : ℕ) (parts : Inputs) : Type 0 where
  pub freq : parts.freq.now ≡ part_of c.shape.freq c.freq c.shape.samples ch
  pub g0 : parts.g0.now ≡ part_of c.shape.g0 c.g0 c.shape.samples ch
  pub g1 : parts.g1.now ≡ part_of c.shape.g1 c.g1 c.shape.samples ch
  pub g2 : parts.g2.now ≡ part_of c.shape.g2 c.g2 c.shape.samples ch
  pub g3 : parts.g3.now ≡ part_of c.shape.g3 c.g3 c.shape.samples ch

-- ---- before sample i
unfoldable pub phases_at : Voice → (ℕ → Float) → ℕ → List Float
phases_at v freq i = steps (λ t ps. moved_phases v (cleaned (freq t)) ps) v.state.phases i

unfoldable pub rng_at : Voice → ℕ → Rng
rng_at v i = steps (λ t r. moved_rng v r) v.state.rng i

unfoldable pub memories_at : Voice → ℕ → List Float
memories_at v i = steps (λ t ms. moved_memories v (rng_at v t) ms) v.state.memories i

-- ---- n samples
unfoldable pub partials_out : Voice → (ℕ → Float) → (ℕ → List Float) → ℕ → List Float
partials_out v freq g n = up_to (λ i. partial_sum v (cleaned (freq i)) (g i) (phases_at v freq i)) n

-- sample i with what the live bands add to y
unfoldable pub noisy : Voice → (ℕ → Float) → (ℕ → List Float) → ℕ → Float → Float
noisy v freq g i y = noise_sum v (cleaned (freq i)) (g i) (rng_at v i) (memories_at v i) y

unfoldable pub noise_out : Voice → (ℕ → Float) → (ℕ → List Float) → List Float → ℕ → List Float
noise_out v freq g ys n = up_to (λ i. noisy v freq g i (get_or ys i nan)) n

-- ---- a voice of only what a pass reads
abbrev pub partials_voice : Setting → List Float → List Float → List Float → Voice
partials_voice s lists partials phases = voice_of s lists partials [] (state_of phases [] (record { state = 0 }))

abbrev pub noise_voice : Setting → List Float → List Float → List Float → Rng → Voice
noise_voice s lists noise memories rng = voice_of s lists [] noise (state_of [] memories rng)

-- ---- the voice of a timbre in a state, with the bands that tick, and what of it each pass reads
abbrev pub toned : Timbre → State → Voice
toned t s = voice_of (ticking_set t.set.now) t.lists.now t.partials.now t.noise.now s

abbrev pub partials_of : Timbre → List Float → Voice
partials_of t phases = partials_voice t.set.now t.lists.now t.partials.now phases

abbrev pub noise_of : Timbre → List Float → Rng → Voice
noise_of t memories rng = noise_voice (ticking_set t.set.now) t.lists.now t.noise.now memories rng

-- the bands that tick, as they are handed to the pass
pub record LiveOf (s : Setting) (live : List ℕ) : Type 0 where
  pub count : length live ≡ (ticking_set s).live_count
  pub bands : (l : ℕ) → l < length live → get_or live l 0 ≡ get_or (ticking_set s).live l 0

-- ---- what a pass and a channel promise, by their frequencies, gains and number of samples: the state that they leave, and the samples
pub record PartialsPlayed (v : Voice) (freq : ℕ → Float) (g : ℕ → List Float) (n : ℕ) (phases out : List Float) : Type 0 where
  pub moves : phases ≡ phases_at v freq n
  pub written : out ≡ partials_out v freq g n

-- the same of a timbre, the phases, the parts that are read and the samples, before (and after, with ') the pass
abbrev pub PlaysPartials : Timbre → Inputs → List Float → List Float → List Float → List Float → Type 0
PlaysPartials t parts phases out phases' out' =
    PartialsPlayed (partials_of t phases) (frequency_in parts) (gains_in parts) (length out) phases' out'

-- `ys` are the samples before the pass
pub record NoisePlayed (v : Voice) (freq : ℕ → Float) (g : ℕ → List Float) (ys : List Float) (n : ℕ)
    (rng : Rng) (memories out : List Float) : Type 0 where
  pub steps_on : rng ≡ rng_at v n
  pub rings : memories ≡ memories_at v n
  pub written : out ≡ noise_out v freq g ys n

pub record ChannelPlayed (v : Voice) (freq : ℕ → Float) (g : ℕ → List Float) (n : ℕ) (end : State) (out : List Float) : Type 0 where
  pub ends : end ≡ state_at v freq n
  pub written : out ≡ channel_out v freq g n

pub record BlockPlayed (v : Voice) (c : Call) (end : State) (out : List Float) : Type 0 where
  pub ends : end ≡ block_end v c
  pub written : out ≡ block_out v c
