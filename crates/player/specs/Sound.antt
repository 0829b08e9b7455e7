-- One sample of a voice: what moves, and what is audible. The operations stand in the order of the Rust's `process`.
use Rattle.std.specs.Prelude.{cond, ℕ, ◌+◌, ◌*◌, List, get_or, eqb, Float}
use Rattle.std.specs.Float.{nan}
use Rattle.std.specs.Float.Ieee.{ne}
use Rattle.float.specs.Sqrt.{sqrt}
use Rattle.float.specs.F32.{◌⊕◌, ◌⊗◌, quotient}
use Rattle.voice.specs.Lists.{map_to, steps}
use Rattle.filters.specs.Wave.{sine_of}
use Rattle.player.specs.Phase.{advance_of, inverse_of, partial_freq, step_of}
use Rattle.player.specs.Fade.{nyquist_fade}
use Rattle.filters.specs.Rng.{next_bipolar}
use Rattle.filters.specs.Biquad.{tick_of}
use Rattle.player.specs.Bracket.{bracket_of, sides_of, value_between, place_between}
use Rattle.voice.specs.Limits.{max_partials, max_bands, entry_partials, entry_noise}
use Rattle.voice.specs.Voice.{pitches, stretches, mainlobes, noise_gains, compensations, band_at, memory_at, with_memory, state_of}
use Rattle.player.specs.declared.pitch.bracket.Sides.{Sides}
use Rattle.filters.specs.declared.biquad.Tick.{Tick}
use Rattle.filters.specs.declared.rng.Rng.{Rng}
use Rattle.voice.specs.declared.voice.State.{State}
use Rattle.voice.specs.declared.voice.Voice.{Voice}

-- ---- what a frequency f0 decides
unfoldable pub sides_at : Voice → Float → Sides
sides_at v f0 = sides_of (bracket_of (pitches v) v.set.count f0)

abbrev pub stretch_at : Voice → Float → Float
stretch_at v f0 = value_between (stretches v) (sides_at v f0)

-- partial i counts from 0, and is the multiple i + 1 of the frequency
abbrev pub freq_at : Voice → Float → ℕ → Float
freq_at v f0 i = partial_freq (i + 1) f0 (stretch_at v f0)

abbrev pub step_at : Voice → Float → ℕ → Float
step_at v f0 i = step_of (i + 1) f0 (stretch_at v f0) (inverse_of v.set.sample_rate)

abbrev pub fade_at : Voice → Float → ℕ → Float
fade_at v f0 i = nyquist_fade (freq_at v f0 i) (v.set.sample_rate ⊗ quotient 1 2)

-- channel q's coefficient for partial i, and for band b, between the two sides
abbrev pub partial_row : List Float → Sides → ℕ → ℕ → Float
partial_row ps s q i = place_between entry_partials ps s (q * max_partials + i)

abbrev pub noise_row : List Float → Sides → ℕ → ℕ → Float
noise_row ns s q b = place_between entry_noise ns s (q * max_bands + b)

-- ---- partials: every phase moves, and those with a coefficient sound
unfoldable pub moved_phases : Voice → Float → List Float → List Float
moved_phases v f0 ps = map_to (λ i p. advance_of p (step_at v f0 i)) 0 v.set.m ps

-- a single voice: the coefficient, and gain 0
unfoldable pub add_single : Float → Float → Float → Float → Float → Float → Float
add_single y coeff mainlobe fade gain p = cond (ne coeff (quotient 0 1)) (y ⊕ coeff ⊗ mainlobe ⊗ fade ⊗ gain ⊗ sine_of p) y

-- a blend: the sum of gains times coefficients over k channels
unfoldable pub blend_coeff : (ℕ → Float) → List Float → ℕ → Float
blend_coeff row g k = steps (λ q y. y ⊕ get_or g q nan ⊗ row q) (quotient 0 1) k

unfoldable pub add_blend : Float → Float → Float → Float → Float → Float
add_blend y coeff mainlobe fade p = cond (ne coeff (quotient 0 1)) (y ⊕ coeff ⊗ mainlobe ⊗ fade ⊗ sine_of p) y

unfoldable pub partial_term : Voice → Float → List Float → ℕ → Float → Float → Float
partial_term v f0 g i y p =
    let s = sides_at v f0 in
    let mainlobe = value_between (mainlobes v) s in
    cond (eqb v.set.blend 0)
    (add_single y (partial_row v.partials s 0 i) mainlobe (fade_at v f0 i) (get_or g 0 nan) p)
    (add_blend y (blend_coeff (λ q. partial_row v.partials s q i) g v.set.k) mainlobe (fade_at v f0 i) p)

unfoldable pub partial_sum : Voice → Float → List Float → List Float → Float
partial_sum v f0 g ps = steps (λ i y. partial_term v f0 g i y (advance_of (get_or ps i nan) (step_at v f0 i))) (quotient 0 1) v.set.m

-- ---- noise: it steps once where a band is live, is scaled by 1.7320508, and every live band ticks
abbrev pub unit_variance : Float
unit_variance = quotient 17320508 10000000

abbrev pub noise_in : Rng → Float
noise_in g = (next_bipolar g).value ⊗ unit_variance

unfoldable pub moved_rng : Voice → Rng → Rng
moved_rng v g = cond (eqb v.set.live_count 0) g (next_bipolar g).rng

-- band b hears the noise x, from its memories before the sample
abbrev pub tick_at : Voice → Float → List Float → ℕ → Tick
tick_at v x ms b = tick_of (memory_at ms b) x (band_at v.lists b)

unfoldable pub add_noise_single : Float → Float → Float → Float → Float → Float → Float
add_noise_single y coeff gain noise_gain compensation filtered =
    cond (ne coeff (quotient 0 1)) (y ⊕ coeff ⊗ noise_gain ⊗ gain ⊗ compensation ⊗ filtered) y

-- the power over k channels: the root of the summed squares is the blend's coefficient
unfoldable pub blend_power : (ℕ → Float) → List Float → ℕ → Float
blend_power row g k = steps (λ q y. y ⊕ (get_or g q nan ⊗ row q) ⊗ (get_or g q nan ⊗ row q)) (quotient 0 1) k

unfoldable pub add_noise_blend : Float → Float → Float → Float → Float → Float
add_noise_blend y power noise_gain compensation filtered =
    cond (ne power (quotient 0 1)) (y ⊕ sqrt power ⊗ noise_gain ⊗ compensation ⊗ filtered) y

unfoldable pub noise_term : Voice → Float → List Float → ℕ → Float → Float → Float
noise_term v f0 g b y filtered =
    let s = sides_at v f0 in
    let noise_gain = value_between (noise_gains v) s in
    cond (eqb v.set.blend 0)
    (add_noise_single y (noise_row v.noise s 0 b) (get_or g 0 nan) noise_gain (get_or (compensations v) b nan) filtered)
    (add_noise_blend y (blend_power (λ q. noise_row v.noise s q b) g v.set.k) noise_gain (get_or (compensations v) b nan) filtered)

-- which band live band l is
abbrev pub live_band : Voice → ℕ → ℕ
live_band v l = get_or v.set.live l 0

-- the sample y with what the live bands add to it, in their order
unfoldable pub noise_sum : Voice → Float → List Float → Rng → List Float → Float → Float
noise_sum v f0 g r ms y =
    steps (λ l y. noise_term v f0 g (live_band v l) y (tick_at v (noise_in r) ms (live_band v l)).y) y v.set.live_count

-- ---- the whole sample, from the state before it: 0 where the voice has no entry
unfoldable pub sound : Voice → State → Float → List Float → Float
sound v s f0 g =
    cond (eqb v.set.count 0) (quotient 0 1) (noise_sum v f0 g s.rng s.memories (partial_sum v f0 g s.phases))

-- the memories after it, whatever the gains are: each live band's are those after its tick
unfoldable pub moved_memories : Voice → Rng → List Float → List Float
moved_memories v r ms =
    steps (λ l ms. with_memory ms (live_band v l) (tick_at v (noise_in r) ms (live_band v l)).state) ms v.set.live_count

-- what moves: nothing where the voice has no entry. No gain is among the arguments.
unfoldable pub moved : Voice → Float → State → State
moved v f0 s =
    cond (eqb v.set.count 0) s
    (state_of (moved_phases v f0 s.phases) (moved_memories v s.rng s.memories) (moved_rng v s.rng))
