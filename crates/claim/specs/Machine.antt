-- The plain machine (document 01, module 6; document 02, card 1): phases, memories and the noise number, moved by frequencies, resets,
-- seeds and retunes.
-- It takes entries, rate and band coefficients from the arguments of a making and of retunes, never from a voice. Both kinds share it.
use Rattle.std.specs.Prelude.{ℕ, ◌+◌, List, [], ◌∷◌, map, Bool, false, ◌||◌, cond, length, replicate, eqb, Float}
use Rattle.table.specs.declared.desk.Kind.{Kind}
use Rattle.table.specs.Table.{PitchEntry}
use Rattle.table.specs.Decode.{decode, entries_of}
use Rattle.table.specs.Desk.{band_count}
use Rattle.filters.specs.declared.biquad.BiquadCoeffs.{BiquadCoeffs}
use Rattle.filters.specs.declared.biquad.BiquadState.{BiquadState}
use Rattle.float.specs.F32.{◌⊗◌, quotient}
use Rattle.player.specs.Phase.{advance_of, inverse_of, step_of}
use Rattle.filters.specs.Rng.{stepped, bipolar_of, new_rng, default_seed}
use Rattle.filters.specs.Biquad.{noise_band, cleared, tick_of}
use Rattle.voice.specs.Input.{cleaned}
use Rattle.player.specs.Bracket.{bracket_of, sides_of, value_between}
use Rattle.player.specs.Sound.{unit_variance}
use Rattle.making.specs.Making.{f32, voice_entries, channel_count, phase_count, live_bands, Making}

-- the coefficients of bands with these centres at a sample rate
abbrev pub bands_for : List Float → Float → List BiquadCoeffs
bands_for centres rate = map (λ c. noise_band c rate) centres

-- what the machine takes from the making: the voice's entries by their pitches and stretches, the rate, how many phases, the bands,
-- and which of them are live
pub record Plain : Type 0 where
  pub pitches : List Float
  pub stretches : List Float
  pub rate : Float
  pub phases : ℕ
  pub bands : List BiquadCoeffs
  pub live : List ℕ

abbrev pub plain_from : Kind → List PitchEntry → Float → List Float → Plain
plain_from k es rate centres = record {
  pitches = map (λ e. f32 e.f0_hz) (voice_entries k es);
  stretches = map (λ e. f32 e.stretch) (voice_entries k es);
  rate = rate;
  phases = phase_count k (channel_count k es) es;
  bands = bands_for centres rate;
  live = live_bands k es (band_count k es);
}

unfoldable pub plain_of : Making → Plain
plain_of m = plain_from m.kind (entries_of (decode m.image)) m.rate m.centres

-- the same with another rate and other bands
abbrev pub retuned_to : Float → List BiquadCoeffs → Plain → Plain
retuned_to rate bands x = record {
  pitches = x.pitches;
  stretches = x.stretches;
  rate = rate;
  phases = x.phases;
  bands = bands;
  live = x.live;
}

-- exactly as many phases and memories as there are, and the noise number
pub record Machine : Type 0 where
  pub phases : List Float
  pub memories : List BiquadState
  pub noise : ℕ

-- what the machine is fed
pub data Event : Type 0 where
  frequency : Float → Event
  reset : Event
  seed : ℕ → Event
  retune : Float → List BiquadCoeffs → Event

-- at first: all 0, and the noise number of the default seed
abbrev pub start_from : Plain → Machine
start_from x = record {
  phases = replicate x.phases (quotient 0 1);
  memories = replicate (length x.bands) cleared;
  noise = (new_rng default_seed).state;
}

-- the phases of partials m, m + 1, ..: each advances by its step and loses its whole part
unfoldable pub advanced : ℕ → Float → Float → Float → List Float → List Float
advanced m f0 stretch inv [] = []
advanced m f0 stretch inv (p ∷ ps) = advance_of p (step_of m f0 stretch inv) ∷ advanced (m + 1) f0 stretch inv ps

-- whether a number is in a list
unfoldable pub is_in : ℕ → List ℕ → Bool
is_in n [] = false
is_in n (x ∷ l) = eqb n x || is_in n l

-- the memories of bands b, b + 1, ..: the live ones tick
unfoldable pub tick : ℕ → Float → List ℕ → List BiquadCoeffs → List BiquadState → List BiquadState
tick b x live [] ss = ss
tick b x live (c ∷ cs) [] = []
tick b x live (c ∷ cs) (s ∷ ss) = cond (is_in b live) (tick_of s x c).state s ∷ tick (b + 1) x live cs ss

-- the stretch at a frequency
abbrev pub stretch_of : Plain → Float → Float
stretch_of x f0 = value_between x.stretches (sides_of (bracket_of x.pitches (length x.pitches) f0))

-- with a live band the noise number steps once, and is the bands' input scaled by 1.7320508
abbrev pub noise_next : List ℕ → ℕ → ℕ
noise_next [] n = n
noise_next (b ∷ live) n = stepped n

-- one frequency, cleaned: with no entries nothing moves
abbrev pub at_frequency : List Float → Plain → Float → Machine → Machine
at_frequency [] x f0 s = s
at_frequency (p ∷ ps) x f0 s = record {
  phases = advanced 1 f0 (stretch_of x f0) (inverse_of x.rate) s.phases;
  memories = tick 0 (bipolar_of (stepped s.noise) ⊗ unit_variance) x.live x.bands s.memories;
  noise = noise_next x.live s.noise;
}

-- a machine beside what it takes. The two stand together because an event may change either: a retune leaves the state as it is and changes
-- the rate and the bands; the other events leave what the machine takes as it is.
pub record Supplied : Type 0 where
  pub source : Plain
  pub state : Machine

abbrev pub supplied : Plain → Machine → Supplied
supplied x s = record { source = x; state = s }

-- a frequency is cleaned first: non-finite, negative and -0 become 0. A reset zeroes phases and memories and returns to the default seed,
-- whatever was reseeded; the rate stays. A seed is taken, zeroes the memories and keeps the phases. A retune's rate and bands are taken.
unfoldable pub move : Plain → Machine → Event → Supplied
move x s (frequency f) = supplied x (at_frequency x.pitches x (cleaned f) s)
move x s reset = supplied x (start_from x)
move x s (seed n) = supplied x (record { phases = s.phases; memories = replicate (length x.bands) cleared; noise = (new_rng n).state })
move x s (retune rate bands) = supplied (retuned_to rate bands x) s

-- each event finds what the one before it left
unfoldable pub machine_from : Supplied → List Event → Supplied
machine_from y [] = y
machine_from y (e ∷ es) = machine_from (move y.source y.state e) es

-- the machine after some events from its start
abbrev pub machine : Plain → List Event → Machine
machine x es = (machine_from (supplied x (start_from x)) es).state
