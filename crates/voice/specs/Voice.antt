-- A voice: its lists by their names, the voice rules, which question 13 asks, and its running state: another one, and the first.
use Rattle.std.specs.Prelude.{ℕ, ◌+◌, ◌-◌, ◌*◌, List, ◌++◌, Bool, ◌&&◌, cond, get_or, set, take, drop, replicate, leb, ltb, Float}
use Rattle.std.specs.Float.{nan}
use Rattle.std.specs.Float.Ieee.{le, lt}
use Rattle.std.specs.Float.Ieee.Scale.{finite}
use Rattle.float.specs.F32.{quotient}
use Rattle.voice.specs.Lists.{every, up_to}
use Rattle.voice.specs.Limits.{max_entries, max_partials, max_bands, max_blended, max_hz, list_places, short_lists, memory_places}
pub use Rattle.filters.specs.Rate.{rate_ok}
use Rattle.filters.specs.Rng.{new_rng, default_seed}
use Rattle.filters.specs.declared.biquad.BiquadCoeffs.{BiquadCoeffs}
use Rattle.filters.specs.declared.biquad.BiquadState.{BiquadState}
use Rattle.filters.specs.declared.rng.Rng.{Rng}
use Rattle.voice.specs.declared.voice.Setting.{Setting}
use Rattle.voice.specs.declared.voice.State.{State}
use Rattle.voice.specs.declared.voice.Voice.{Voice}

-- ---- the short lists: 16 places each, one after the other in one. Which is which:
abbrev pub pitches_list : ℕ
pitches_list = 0

abbrev pub stretches_list : ℕ
stretches_list = 1

abbrev pub mainlobes_list : ℕ
mainlobes_list = 2

abbrev pub noise_gains_list : ℕ
noise_gains_list = 3

abbrev pub compensations_list : ℕ
compensations_list = 9

abbrev pub centres_list : ℕ
centres_list = 10

-- where the first band's coefficients stand: those of the bands, five a band, take the places of lists 4 to 8
abbrev pub bands_at : ℕ
bands_at = 64

-- list n by itself
unfoldable pub list_at : List Float → ℕ → List Float
list_at xs n = up_to (λ i. get_or xs (n * list_places + i) nan) list_places

abbrev pub pitches : Voice → List Float
pitches v = list_at v.lists pitches_list

abbrev pub stretches : Voice → List Float
stretches v = list_at v.lists stretches_list

abbrev pub mainlobes : Voice → List Float
mainlobes v = list_at v.lists mainlobes_list

abbrev pub noise_gains : Voice → List Float
noise_gains v = list_at v.lists noise_gains_list

abbrev pub compensations : Voice → List Float
compensations v = list_at v.lists compensations_list

-- the lists with another list n; where there is none, as they are
unfoldable pub with_list : List Float → ℕ → List Float → List Float
with_list xs n list = cond (ltb n short_lists) (take (n * list_places) xs ++ (list ++ drop (n * list_places + list_places) xs)) xs

-- the five coefficients of band b
abbrev pub band_at : List Float → ℕ → BiquadCoeffs
band_at xs b = record {
  b0 = get_or xs (bands_at + b * 5) nan;
  b1 = get_or xs (bands_at + b * 5 + 1) nan;
  b2 = get_or xs (bands_at + b * 5 + 2) nan;
  a1 = get_or xs (bands_at + b * 5 + 3) nan;
  a2 = get_or xs (bands_at + b * 5 + 4) nan;
}

-- ---- the memories of the running state, two a band: those of band b, and others in their place
abbrev pub memory_at : List Float → ℕ → BiquadState
memory_at ms b = record { z1 = get_or ms (b * 2) nan; z2 = get_or ms (b * 2 + 1) nan }

abbrev pub with_memory : List Float → ℕ → BiquadState → List Float
with_memory ms b s = set (set ms (b * 2) s.z1) (b * 2 + 1) s.z2

-- ---- the voice rules
-- a phase is at least 0 and below 1
abbrev pub phase_ok : Float → Bool
phase_ok p = le (quotient 0 1) p && lt p (quotient 1 1)

-- a pitch is finite, above 0 and at most 20,000; a stretch is 0 to 4 (a NaN fails every test)
abbrev pub pitch_ok : Float → Bool
pitch_ok f = lt (quotient 0 1) f && le f (quotient max_hz 1)

abbrev pub stretch_ok : Float → Bool
stretch_ok s = le (quotient 0 1) s && le s (quotient 4 1)

-- ascending, equal ones allowed: of the first n
abbrev pub pitches_ascend : List Float → ℕ → Bool
pitches_ascend l n = every (λ i. le (get_or l i nan) (get_or l (i + 1) nan)) (n - 1)

-- ascending, none twice: of the first n
abbrev pub bands_ascend : List ℕ → ℕ → Bool
bands_ascend l n = every (λ i. ltb (get_or l i 0) (get_or l (i + 1) 0)) (n - 1)

-- at most 16 entries, 32 phases, 16 bands, 4 blend channels (and 16 live bands, since each is below j and none comes twice)
unfoldable pub counts_ok : Setting → Bool
counts_ok s =
    leb s.count max_entries
    && (leb s.m max_partials && (leb s.j max_bands && (leb s.k max_blended && leb s.live_count max_bands)))

-- of the first n entries: pitches finite, above 0, at most 20,000, ascending with equal ones allowed; stretches 0 to 4
unfoldable pub entries_ok : List Float → ℕ → Bool
entries_ok xs n =
    every (λ i. pitch_ok (get_or (list_at xs pitches_list) i nan)) n
    && (pitches_ascend (list_at xs pitches_list) n && every (λ i. stretch_ok (get_or (list_at xs stretches_list) i nan)) n)

-- live bands ascending, each below j
unfoldable pub live_ok : Setting → Bool
live_ok s = every (λ i. ltb (get_or s.live i 0) s.j) s.live_count && bands_ascend s.live s.live_count

-- the first j centres are finite
unfoldable pub centres_finite : List Float → ℕ → Bool
centres_finite xs j = every (λ i. finite (get_or (list_at xs centres_list) i nan)) j

-- the first m phases at least 0 and below 1
unfoldable pub phases_ok : List Float → ℕ → Bool
phases_ok ps m = every (λ i. phase_ok (get_or ps i nan)) m

-- question 13, of what of a voice it looks at: its numbers, its short lists and its phases. (The sample rate is 8,000 to 192,000 by
-- `rate_ok`.)
unfoldable pub rules_of : Setting → List Float → List Float → Bool
rules_of s lists phases =
    counts_ok s
    && (entries_ok lists s.count
    && (rate_ok s.sample_rate && (live_ok s && (centres_finite lists s.j && phases_ok phases s.m))))

-- does the voice keep the voice rules?
abbrev pub keeps_rules : Voice → Bool
keeps_rules v = rules_of v.set v.lists v.state.phases

-- ---- a voice put together, and with another running state
abbrev pub voice_of : Setting → List Float → List Float → List Float → State → Voice
voice_of s lists partials noise state = record { set = s; lists = lists; partials = partials; noise = noise; state = state }

abbrev pub state_of : List Float → List Float → Rng → State
state_of phases memories rng = record { phases = phases; memories = memories; rng = rng }

abbrev pub with_state : Voice → State → Voice
with_state v s = voice_of v.set v.lists v.partials v.noise s

-- the running state at first and after a reset: all 0, and the default seed's noise number
abbrev pub no_memories : List Float
no_memories = replicate memory_places (quotient 0 1)

abbrev pub first_state : State
first_state = state_of (replicate max_partials (quotient 0 1)) no_memories (new_rng default_seed)
