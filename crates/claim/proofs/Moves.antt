-- From a fresh voice, whatever its running state: a sample, the samples of a play, a reset and a reseed move what is in use as the machine
-- moves. Assumes nothing.
use mathlib.Core.Path.{◌≡◌, refl, ap, sym, ◌∙◌}
use mathlib.Core.List.{List, [], ◌∷◌, ◌++◌, map}
use mathlib.Core.Bool.{Bool, true, false, cond}
use Prim.Native.Nat.{ℕ, zero, suc, ◌+◌, ◌≤◌, ◌<◌}
use native.Mathlib.Omega.{arith}
use lib.ListN.{length, take, get_or, replicate, length-map}
use lib.Dec.{eqb}
use lib.Ieee.{Float}
use borrow.Author.Tests.{ne_eqb}
use Rattle.voice.proofs.Loops.{get_or-padded, take-replicate}
use Rattle.table.specs.declared.desk.Kind.{Kind}
use Rattle.table.specs.Table.{PitchEntry}
use Rattle.table.specs.Desk.{band_count}
use Rattle.float.specs.F32.{◌⊗◌, quotient}
use Rattle.voice.specs.Lists.{map_to, steps, up_to, padded}
use Rattle.player.specs.Phase.{advance_of, step_of, inverse_of}
use Rattle.filters.specs.Rng.{stepped, bipolar_of, next_bipolar, new_rng}
use Rattle.filters.specs.Biquad.{cleared, noise_band}
use Rattle.filters.specs.Band.{zero_coeffs, band_from}
use Rattle.filters.specs.declared.biquad.BiquadCoeffs.{BiquadCoeffs}
use Rattle.filters.proofs.BandAt.{band-coeffs}
use Rattle.voice.specs.Input.{cleaned}
use Rattle.voice.specs.Voice.{rate_ok, voice_of, band_at, memory_at, with_state, state_of, first_state}
use Rattle.player.specs.Sound.{unit_variance, noise_in, sides_at, stretch_at, moved_phases, moved_rng, moved_memories, moved}
use Rattle.player.specs.Bands.{ticking}
use Rattle.player.specs.Block.{state_at}
use Rattle.voice.specs.Restart.{reseeded_state}
use Rattle.making.specs.Making.{f32, voice_entries, live_bands, fresh_voice}
use Rattle.voice.proofs.MemoryLaws.{length-with}
use Rattle.making.proofs.FreshLaws.{fresh-pitches, fresh-stretches, fresh-band}
use Rattle.filters.specs.declared.rng.Rng.{Rng}
use Rattle.voice.specs.declared.voice.State.{State}
use Rattle.voice.specs.declared.voice.Voice.{Voice}
use Rattle.claim.specs.Machine.{bands_for, Plain, plain_from, Machine, Event, frequency, seed, start_from, advanced, tick, stretch_of, noise_next, at_frequency, Supplied, supplied, move, machine_from}
use Rattle.claim.specs.Calls.{running}
use Rattle.claim.proofs.Memories.{memories-first}
use Rattle.claim.proofs.Front.{stretch-front}
use Rattle.claim.proofs.Bands.{live-bands, is_in-live, tick_is, ticking-made}

-- the first n phases of a list whose first n are moved
take-advanced : (f0 stretch inv : Float) (k n : ℕ) (l : List Float)
    → take n (map_to (λ i p. advance_of p (step_of (i + 1) f0 stretch inv)) k n l) ≡ advanced (k + 1) f0 stretch inv (take n l)
unfolding map_to advanced
take-advanced f0 stretch inv k zero l = refl
take-advanced f0 stretch inv k (suc n) [] = refl
take-advanced f0 stretch inv k (suc n) (p ∷ l) =
    let e : suc k + 1 ≡ k + 1 + 1 = omega arith in
    rw (← e) (ap (λ t. advance_of p (step_of (k + 1) f0 stretch inv) ∷ t) (take-advanced f0 stretch inv (suc k) n l))

-- the noise number: it steps where the list of live bands is not empty
noise-next : (live : List ℕ) (g : Rng) → (cond (eqb (length live) 0) g (next_bipolar g).rng).state ≡ noise_next live g.state
noise-next [] g = refl
noise-next (b ∷ live) g = rw (ne_eqb (suc (length live)) 0 (λ e. omega arith))

-- with no entries nothing moves, on both sides
by_entries : (vs : List PitchEntry) (pitch : PitchEntry → Float) (x : Plain) (f0 : Float) (look : State → Machine) (s t : State)
    → (0 < length vs → look t ≡ record {
      phases = advanced 1 f0 (stretch_of x f0) (inverse_of x.rate) (look s).phases;
      memories = tick 0 (bipolar_of (stepped (look s).noise) ⊗ unit_variance) x.live x.bands (look s).memories;
      noise = noise_next x.live (look s).noise;
    })
    → look (cond (eqb (length vs) 0) s t) ≡ at_frequency (map pitch vs) x f0 (look s)
by_entries [] pitch x f0 look s t h = refl
by_entries (v ∷ vs) pitch x f0 look s t h = rw (ne_eqb (suc (length vs)) 0 (λ e. omega arith)) (h (omega arith))

pub machine-append : (y : Supplied) (a b : List Event) → machine_from y (a ++ b) ≡ machine_from (machine_from y a) b
unfolding machine_from
machine-append y [] b = refl
machine-append y (e ∷ a) b = machine-append (move y.source y.state e) a b

-- what moves does not go by the running state of the voice
moved-with : (v : Voice) (s t : State) (f0 : Float) → moved (with_state v s) f0 t ≡ moved v f0 t
unfolding moved moved_phases moved_memories moved_rng sides_at
moved-with v s t f0 = refl

-- ---- the memories are 32 places throughout
pub record Sized (s : State) : Type 0 where
  pub places : length s.memories ≡ 32

cond-sized : (b : Bool) (s t : State) → Sized s → Sized t → Sized (cond b s t)
cond-sized true s t h k = h
cond-sized false s t h k = k

steps-length : (f : ℕ → List Float → List Float) → ((i : ℕ) (l : List Float) → length (f i l) ≡ length l) → (l : List Float) (n : ℕ) → length (steps f l n) ≡ length l
unfolding steps
steps-length f h l zero = refl
steps-length f h l (suc n) = h n (steps f l n) ∙ steps-length f h l n

moved-sized : (v : Voice) (f0 : Float) (s : State) → Sized s → Sized (moved v f0 s)
unfolding moved moved_memories
moved-sized v f0 s h =
    cond-sized (eqb v.set.count 0) s _ h (record { places = steps-length _ (λ l ms. length-with ms _ _) s.memories v.set.live_count ∙ h.places })

pub state_at-sized : (v : Voice) (freq : ℕ → Float) (n : ℕ) → Sized v.state → Sized (state_at v freq n)
unfolding state_at steps
state_at-sized v freq zero h = h
state_at-sized v freq (suc n) h = moved-sized v (cleaned (freq n)) (state_at v freq n) (state_at-sized v freq n h)

pub first-sized : Sized first_state
first-sized = record { places = refl }

-- at a rate that a voice can have, the coefficients that `init` gives are the machine's
bands-for : (rate : Float) → rate_ok rate ≡ true → (centres : List Float) → map (λ c. (band_from c rate).coeffs) centres ≡ bands_for centres rate
bands-for rate h [] = refl
bands-for rate h (c ∷ cs) = rw (band-coeffs c rate h, bands-for rate h cs)

module _ (k : Kind) (es : List PitchEntry) (rate : Float) (centres : List Float) (few : length (voice_entries k es) ≤ 16) (j : length centres ≡ band_count k es) (can : rate_ok rate ≡ true) where
  abbrev fresh : Voice
  fresh = fresh_voice k es rate centres

  abbrev plainly : Plain
  plainly = plain_from k es rate centres

  -- what is in use of a state of the fresh voice, and the same beside what the machine takes
  abbrev view : State → Machine
  view s = running (with_state fresh s)

  abbrev supply : State → Supplied
  supply s = supplied plainly (view s)

  count-is : fresh.set.count ≡ length (voice_entries k es)
  unfolding fresh_voice
  count-is = refl

  stretch-same : (f0 : Float) → 0 < length (voice_entries k es) → stretch_at fresh f0 ≡ stretch_of plainly f0
  unfolding sides_at
  stretch-same f0 h =
      rw (fresh-pitches k es rate centres few, fresh-stretches k es rate centres few, count-is)
      (stretch-front (map (λ e. f32 e.f0_hz) (voice_entries k es)) _ (map (λ e. f32 e.stretch) (voice_entries k es)) _ (length (voice_entries k es)) f0
      (length-map (voice_entries k es) (λ e. f32 e.f0_hz)) (length-map (voice_entries k es) (λ e. f32 e.stretch)) h)

  phases-same : (f0 : Float) (ps : List Float) → 0 < length (voice_entries k es)
      → take plainly.phases (moved_phases fresh f0 ps) ≡ advanced 1 f0 (stretch_of plainly f0) (inverse_of rate) (take plainly.phases ps)
  unfolding fresh_voice moved_phases
  phases-same f0 ps h = rw (← stretch-same f0 h) (take-advanced f0 (stretch_at fresh f0) (inverse_of rate) 0 plainly.phases ps)

  bands-length : length plainly.bands ≡ band_count k es
  bands-length = length-map centres (λ c. noise_band c rate) ∙ j

  module _ (most : band_count k es ≤ 16) where
    -- band b of the voice is the machine's
    band-same : (b : ℕ) → b < band_count k es → band_at fresh.lists b ≡ get_or plainly.bands b zero_coeffs
    band-same b l =
        fresh-band k es rate centres few (omega arith) b (omega arith)
        ∙ ap (λ (l : List BiquadCoeffs). get_or (padded 16 zero_coeffs l) b zero_coeffs) (bands-for rate can centres)
        ∙ get_or-padded 16 zero_coeffs zero_coeffs plainly.bands b (omega (arith, bands-length))

    memories-same : (r : Rng) (ms : List Float) → length ms ≡ 32
        → up_to (memory_at (moved_memories fresh r ms)) (band_count k es) ≡ tick 0 (noise_in r) plainly.live plainly.bands (up_to (memory_at ms) (band_count k es))
    unfolding fresh_voice moved_memories
    memories-same r ms h =
        let n = band_count k es in
        let live = live_bands k es n in
        let T = live-bands k es (padded 16 0 live) fresh.lists (noise_in r) ms h n _ most refl in
        tick_is (noise_in r) live plainly.bands (memory_at ms) (memory_at (moved_memories fresh r ms)) n bands-length
        (λ i l. T.below i l ∙ rw (is_in-live k es i n l, band-same i l))

    -- one frequency, where there is an entry
    view-entries : (f0 : Float) (s : State) → Sized s → 0 < length (voice_entries k es)
        → view (state_of (moved_phases fresh f0 s.phases) (moved_memories fresh s.rng s.memories) (moved_rng fresh s.rng))
        ≡ record {
          phases = advanced 1 f0 (stretch_of plainly f0) (inverse_of rate) (take plainly.phases s.phases);
          memories = tick 0 (noise_in s.rng) plainly.live plainly.bands (up_to (memory_at s.memories) (band_count k es));
          noise = noise_next plainly.live s.rng.state;
        }
    unfolding fresh_voice moved_rng
    view-entries f0 s z h = rw (phases-same f0 s.phases h, memories-same s.rng s.memories z.places, noise-next plainly.live s.rng)

    -- LAW: one sample
    pub view-moved : (f : Float) (s : State) → Sized s → supply (moved fresh (cleaned f) s) ≡ move plainly (view s) (frequency f)
    unfolding fresh_voice moved move
    view-moved f s z = ap (supplied plainly) (by_entries (voice_entries k es) (λ e. f32 e.f0_hz) plainly (cleaned f) view s _ (view-entries (cleaned f) s z))

    -- LAW: the samples of a play
    pub view-state_at : (s : State) (freq : ℕ → Float) (n : ℕ) → Sized s
        → supply (state_at (with_state fresh s) freq n) ≡ machine_from (supply s) (up_to (λ i. frequency (freq i)) n)
    unfolding state_at steps up_to machine_from
    view-state_at s freq zero z = refl
    view-state_at s freq (suc n) z =
        let t = state_at (with_state fresh s) freq n in
        ap supply (moved-with fresh s t (cleaned (freq n)))
        ∙ view-moved (freq n) t (state_at-sized (with_state fresh s) freq n z)
        ∙ ap (λ y. move y.source y.state (frequency (freq n))) (view-state_at s freq n z)
        ∙ sym (machine-append (supply s) (up_to (λ i. frequency (freq i)) n) (frequency (freq n) ∷ []))

    -- the running state at first is the machine's start
    pub view_first : plainly.phases ≤ 32 → view first_state ≡ start_from plainly
    unfolding fresh_voice
    view_first a = rw (take-replicate (quotient 0 1) plainly.phases 32 a, memories-first (band_count k es) most, bands-length)

    pub view-reseed : (s : State) (n : ℕ) → supply (reseeded_state s n) ≡ move plainly (view s) (seed n)
    unfolding fresh_voice move
    view-reseed s n =
        ap (λ ms. supplied plainly (record { phases = take plainly.phases s.phases; memories = ms; noise = (new_rng n).state }))
        (memories-first (band_count k es) most ∙ ap (λ l. replicate l cleared) (sym bands-length))

    -- LAW: the fresh voice, whatever its running state, is played as it stands: of a single voice every band is in the list
    pub ticking-fresh : (s : State) → ticking (with_state fresh s) ≡ with_state fresh s
    unfolding fresh_voice
    ticking-fresh s = ap (λ t. voice_of t fresh.lists fresh.partials fresh.noise s) (ticking-made k es rate centres)
