-- What a frequency decides of a sample, as columns hold it while the frequency stays. Cited by private functions only.
use Rattle.std.specs.Prelude.{cond, ◌≡◌, true, List, ℕ, ◌+◌, ◌≤◌, Some, length, get_or, eqb, Float}
use Rattle.std.specs.Float.{nan}
use Rattle.std.specs.Float.Ieee.{le}
use Rattle.float.specs.F32.{◌⊗◌, quotient}
use Rattle.float.specs.inner.Range.{Within}
use Rattle.voice.specs.Lists.{every}
use Rattle.voice.specs.Limits.{max_entries, max_hz}
use Rattle.voice.specs.Voice.{list_at, pitches_list, stretches_list, mainlobes_list, noise_gains_list, pitch_ok, stretch_ok}
use Rattle.voice.specs.declared.voice.Setting.{Setting}
use Rattle.player.specs.Phase.{inverse_of, partial_freq, step_of}
use Rattle.player.specs.Fade.{nyquist_fade}
use Rattle.player.specs.Bracket.{bracket_of, sides_of, value_between}
use Rattle.player.specs.Sound.{partial_row, noise_row}
use Rattle.player.specs.inner.Columns.{Filled, FilledRows}
use Rattle.player.specs.inner.Ranges.{AllSteps, SidesIn}
use Rattle.player.specs.declared.constants.Constants.{Constants}
use Rattle.player.specs.declared.pitch.bracket.Sides.{Sides}
use Rattle.player.specs.declared.pitch.entries.Entries.{Entries}
use Rattle.player.specs.declared.pitch.entries.Pitch.{Pitch}
use Rattle.player.specs.declared.tuning.NoiseTuning.{NoiseTuning}
use Rattle.player.specs.declared.tuning.Tuning.{Tuning}

-- ---- what stays through a channel, of a voice's numbers and short lists
abbrev pub constants_at : Setting → Constants
constants_at s = record { blend = s.blend; k = s.k; m = s.m; inv = inverse_of s.sample_rate; nyquist = s.sample_rate ⊗ quotient 1 2 }

abbrev pub entries_at : Setting → List Float → Entries
entries_at s lists = record {
  count = s.count;
  f0_hz = list_at lists pitches_list;
  stretch = list_at lists stretches_list;
  mainlobe_gain = list_at lists mainlobes_list;
  noise_gain = list_at lists noise_gains_list;
}

-- entries among which every frequency can be looked up
pub record EntriesIn (e : Entries) : Type 0 where
  pub some : 1 ≤ e.count
  pub most : e.count ≤ max_entries
  pub pitches-ok : every (λ i. pitch_ok (get_or e.f0_hz i nan)) e.count ≡ true

-- and a frequency that can be looked up among them
abbrev pub SidesFit : Entries → Float → Type 0
SidesFit e f0 = EntriesIn e × Within max_hz 1 f0

-- and of which the stretches give steps that a phase can gain
abbrev pub PitchFits : Entries → Float → Type 0
PitchFits e f0 = SidesFit e f0 × (every (λ i. stretch_ok (get_or e.stretch i nan)) e.count ≡ true)

-- the sides of a frequency among entries
abbrev pub sides_in : Entries → Float → Sides
sides_in e f0 = sides_of (bracket_of e.f0_hz e.count f0)

-- p is what the frequency f0 decides of a sample by itself: its sides, and the values between them
pub record PitchAt (e : Entries) (f0 : Float) (p : Pitch) : Type 0 where
  pub at : p.f0 ≡ f0
  pub sides-are : p.s ≡ sides_in e f0
  pub stretch-is : p.stretch ≡ value_between e.stretch p.s
  pub mainlobe-is : p.mainlobe ≡ value_between e.mainlobe_gain p.s
  pub inside : SidesIn max_entries p.s
  pub small : Within 8 1 p.stretch

-- a single voice has one row of coefficients, a blend one for each of its channels
abbrev pub rows_in : Constants → ℕ
rows_in x = cond (eqb x.blend 0) 1 x.k

-- the columns of the partials are those of the frequency f0
module _ (x : Constants) (e : Entries) where
  abbrev stretch : Float → Float
  stretch f0 = value_between e.stretch (sides_in e f0)

  pub record Tuned (partials : List Float) (f0 : Float) (t : Tuning) : Type 0 where
    pub at : t.f0 ≡ Some f0
    pub mainlobe : t.mainlobe ≡ value_between e.mainlobe_gain (sides_in e f0)
    pub small : t.small ≡ every (λ i. le (get_or t.incs i nan) (quotient 31 32)) x.m
    pub safe : AllSteps t.incs x.m
    pub steps : Filled t.incs (λ i. step_of (i + 1) f0 (stretch f0) x.inv) x.m
    pub fading : Filled t.fades (λ i. nyquist_fade (partial_freq (i + 1) f0 (stretch f0)) x.nyquist) x.m
    pub rows_are : FilledRows t.rows (λ q i. partial_row partials (sides_in e f0) q i) (rows_in x) x.m

  -- the columns of the live bands are those of the frequency f0
  pub record NoiseTuned (noise : List Float) (live : List ℕ) (f0 : Float) (t : NoiseTuning) : Type 0 where
    pub at : t.f0 ≡ Some f0
    pub noise-gain : t.noise_gain ≡ value_between e.noise_gain (sides_in e f0)
    pub rows_are : FilledRows t.rows (λ q l. noise_row noise (sides_in e f0) q (get_or live l 0)) (rows_in x) (length live)
