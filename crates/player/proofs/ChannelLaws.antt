-- A channel's two passes put together: the state after each sample, and what is audible; and the voices of each pass beside the whole one.
use mathlib.Core.Path.{◌≡◌, refl, sym, ap, ◌∙◌}
use mathlib.Core.List.{List, [], ◌∷◌, ◌++◌}
use native.Mathlib.Numerals.{add-one}
use Rattle.std.proofs.lemmas.List.{replicate_more}
use mathlib.Core.Bool.{Bool, true, false, cond}
use Prim.Native.Nat.{ℕ, zero, suc, ◌<◌}
use lib.ListN.{length, get_or, replicate}
use lib.Dec.{eqb}
use lib.Ieee.{Float, nan}
use Rattle.float.specs.F32.{quotient}
use Rattle.voice.specs.Lists.{map_to, up_to, steps}
use Rattle.voice.specs.Input.{Call, frequency_at, gains_at, cleaned}
use Rattle.voice.specs.Voice.{voice_of, state_of}
use Rattle.player.specs.Bands.{ticking_set, all_live}
use Rattle.voice.specs.declared.voice.Setting.{Setting}
use Rattle.player.specs.Sound.{sides_at, moved_phases, moved_memories, moved_rng, partial_term, partial_sum, noise_term, noise_sum, sound, moved}
use Rattle.player.specs.Block.{state_at, channel_out}
use Rattle.player.specs.inner.Passes.{partials_voice, noise_voice, frequency_in, gains_in, PartsOf, toned, partials_of, noise_of}
use Rattle.player.specs.inner.Passes.{phases_at, rng_at, memories_at, partials_out, noisy, noise_out, PartialsPlayed, NoisePlayed, ChannelPlayed}
use Rattle.filters.specs.declared.rng.Rng.{Rng}
use Rattle.voice.specs.declared.inputs.Inputs.{Inputs}
use Rattle.player.specs.declared.timbre.Timbre.{Timbre}
use Rattle.voice.specs.declared.voice.State.{State}
use Rattle.voice.specs.declared.voice.Voice.{Voice}
use Rattle.voice.proofs.Loops.{steps-same, length-up_to, up_to-at, up_to-as, up_to-same}
use Rattle.player.proofs.SoundLaws.{still, silent}

module _ (v : Voice) (freq : ℕ → Float) (g : ℕ → List Float) where
  -- LAW: the state's parts move each by themselves
  pub state-is : eqb v.set.count 0 ≡ false → (i : ℕ) → state_at v freq i ≡ state_of (phases_at v freq i) (memories_at v i) (rng_at v i)
  unfolding state_at phases_at memories_at rng_at steps moved
  state-is N zero = refl
  state-is N (suc i) = ap (λ (s : State). moved v (cleaned (freq i)) s) (state-is N i) ∙ rw N

  -- one sample
  audible : eqb v.set.count 0 ≡ false → (n i : ℕ) → i < n → noisy v freq g i (get_or (partials_out v freq g n) i nan) ≡ sound v (state_at v freq i) (cleaned (freq i)) (g i)
  unfolding noisy partials_out sound
  audible N n i l =
      ap (λ (z : Float). noisy v freq g i z) (up_to-at (λ i. partial_sum v (cleaned (freq i)) (g i) (phases_at v freq i)) n i nan l)
      ∙ sym (ap (λ (s : State). sound v s (cleaned (freq i)) (g i)) (state-is N i) ∙ rw N)

  -- LAW: what is audible is what the second pass makes of the first's samples
  pub out-is : eqb v.set.count 0 ≡ false → (n : ℕ) → noise_out v freq g (partials_out v freq g n) n ≡ channel_out v freq g n
  unfolding noise_out channel_out
  out-is N n = up_to-as _ _ n (λ i l. audible N n i l)

  pub length-partials : (n : ℕ) → length (partials_out v freq g n) ≡ n
  unfolding partials_out
  length-partials n = length-up_to (λ i. partial_sum v (cleaned (freq i)) (g i) (phases_at v freq i)) n

  -- ---- a voice with no live band: the second pass changes nothing
  pub same-rng : v.set.live_count ≡ 0 → (n : ℕ) → v.state.rng ≡ rng_at v n
  unfolding rng_at moved_rng
  same-rng e n = rw e (sym (steps-same v.state.rng n))

  pub same-memories : v.set.live_count ≡ 0 → (n : ℕ) → v.state.memories ≡ memories_at v n
  unfolding memories_at moved_memories steps
  same-memories e n = rw e (sym (steps-same v.state.memories n))

  pub same_out : v.set.live_count ≡ 0 → (ys : List Float) (n : ℕ) → length ys ≡ n → ys ≡ noise_out v freq g ys n
  unfolding noise_out noisy noise_sum steps
  same_out e ys n h = sym (up_to-same ys nan n h) ∙ rw e

  -- ---- a voice with no partials: the first pass is silence
  pub same-phases : v.set.m ≡ 0 → (n : ℕ) → v.state.phases ≡ phases_at v freq n
  unfolding phases_at moved_phases map_to
  same-phases e n = rw e (sym (steps-same v.state.phases n))

  pub no-partials : v.set.m ≡ 0 → (n : ℕ) → up_to (λ i. quotient 0 1) n ≡ partials_out v freq g n
  unfolding partials_out partial_sum steps
  no-partials e n = rw e

-- a slice that is filled with 0 is silence
pub silence-is : (n : ℕ) (ys : List Float) → ys ≡ replicate n (quotient 0 1) → ys ≡ up_to (λ i. quotient 0 1) n
unfolding up_to
silence-is n ys e = e ∙ go n
  where
    go : (n : ℕ) → replicate n (quotient 0 1) ≡ up_to (λ i. quotient 0 1) n
    go zero = refl
    go (suc n) = ap (λ (k : ℕ). replicate k (quotient 0 1)) (sym (add-one n)) ∙ sym (replicate_more n (quotient 0 1)) ∙ ap (λ (z : List Float). z ++ (quotient 0 1 ∷ [])) (go n)

-- ---- the voices of the two passes
module _ (set : Setting) (lists partials noise phases memories : List Float) (rng : Rng) (freq : ℕ → Float) (g : ℕ → List Float)
    (n : ℕ) where
  abbrev whole : Voice
  whole = voice_of set lists partials noise (state_of phases memories rng)

  abbrev of_partials : Voice
  of_partials = partials_voice set lists partials phases

  abbrev noisal : Voice
  noisal = noise_voice set lists noise memories rng

  of_partials-phases : phases_at of_partials freq n ≡ phases_at whole freq n
  unfolding phases_at moved_phases sides_at
  of_partials-phases = refl

  of_partials-out : partials_out of_partials freq g n ≡ partials_out whole freq g n
  unfolding partials_out phases_at moved_phases partial_sum partial_term sides_at
  of_partials-out = refl

  noisal-rng : rng_at noisal n ≡ rng_at whole n
  unfolding rng_at moved_rng
  noisal-rng = refl

  noisal-memories : memories_at noisal n ≡ memories_at whole n
  unfolding memories_at moved_memories rng_at moved_rng
  noisal-memories = refl

  noisal-out : (ys : List Float) → noise_out noisal freq g ys n ≡ noise_out whole freq g ys n
  unfolding noise_out noisy noise_sum noise_term sides_at memories_at moved_memories rng_at moved_rng
  noisal-out ys = refl

  abbrev Ends : Rng → List Float → List Float → List Float → Type 0
  Ends r ps ms ys = ChannelPlayed whole freq g n (state_of ps ms r) ys

  -- LAW: no entry: nothing moves, and it is silent
  pub ends-still : eqb set.count 0 ≡ true → (ys : List Float) → ys ≡ up_to (λ i. quotient 0 1) n → Ends rng phases memories ys
  ends-still C ys e = record { ends = still whole freq g n C; written = e ∙ silent whole freq g n C }

  -- the first pass writes every sample
  pub sized : (ys : List Float) → ys ≡ partials_out of_partials freq g n → length ys ≡ n
  sized ys e = ap (λ (z : List Float). length z) e ∙ length-partials of_partials freq g n

  -- the state that both passes leave
  left : eqb set.count 0 ≡ false → (r : Rng) (ps ms : List Float) → ps ≡ phases_at whole freq n → ms ≡ memories_at whole n
      → r ≡ rng_at whole n → state_of ps ms r ≡ state_at whole freq n
  left N r ps ms ep em er = rw (ep, em, er) (sym (state-is whole freq g N n))

  -- LAW: no live band: the first pass is all
  pub ends-partials : eqb set.count 0 ≡ false → set.live_count ≡ 0 → (ps ys : List Float) → PartialsPlayed of_partials freq g n ps ys
      → Ends rng ps memories ys
  ends-partials N L ps ys P = record {
    ends = left N rng ps memories (P.moves ∙ of_partials-phases) (same-memories whole freq g L n) (same-rng whole freq g L n);
    written =
        same_out whole freq g L ys n (sized ys P.written) ∙ ap (λ (z : List Float). noise_out whole freq g z n) (P.written ∙ of_partials-out)
        ∙ out-is whole freq g N n;
  }

  -- LAW: both passes
  pub ends-noisy : eqb set.count 0 ≡ false → (r : Rng) (ps ms ys zs : List Float) → PartialsPlayed of_partials freq g n ps ys
      → NoisePlayed noisal freq g ys (length ys) r ms zs → Ends r ps ms zs
  ends-noisy N r ps ms ys zs P Q =
      let e = sized ys P.written in
      record {
        ends =
            left N r ps ms (P.moves ∙ of_partials-phases) (Q.rings ∙ ap (λ (k : ℕ). memories_at noisal k) e ∙ noisal-memories)
            (Q.steps_on ∙ ap (λ (k : ℕ). rng_at noisal k) e ∙ noisal-rng);
        written =
            Q.written ∙ ap (λ (k : ℕ). noise_out noisal freq g ys k) e ∙ noisal-out ys
            ∙ ap (λ (z : List Float). noise_out whole freq g z n) (P.written ∙ of_partials-out) ∙ out-is whole freq g N n;
      }

-- ---- the voice that a timbre is played as, with the bands that tick: neither the partials nor the number of entries ask which these are
module _ (s : Setting) (lists partials noise : List Float) (st : State) (freq : ℕ → Float) (g : ℕ → List Float) (n : ℕ) where
  abbrev with_live : Setting → Voice
  with_live s = voice_of s lists partials noise st

  ticking-phases : (b : Bool) → phases_at (with_live s) freq n ≡ phases_at (with_live (cond b (all_live s) s)) freq n
  unfolding phases_at moved_phases sides_at
  ticking-phases true = refl
  ticking-phases false = refl

  ticking-out : (b : Bool) → partials_out (with_live s) freq g n ≡ partials_out (with_live (cond b (all_live s) s)) freq g n
  unfolding partials_out phases_at moved_phases partial_sum partial_term sides_at
  ticking-out true = refl
  ticking-out false = refl

pub ticking-count : (s : Setting) → (ticking_set s).count ≡ s.count
ticking-count s = go (eqb s.blend 0)
  where
    go : (b : Bool) → (cond b (all_live s) s).count ≡ s.count
    go true = refl
    go false = refl

module _ (t : Timbre) (s : State) (freq : ℕ → Float) (g : ℕ → List Float) (n : ℕ) where
  abbrev Leaves : State → List Float → Type 0
  Leaves end ys = ChannelPlayed (toned t s) freq g n end ys

  counted : (b : Bool) → eqb t.set.now.count 0 ≡ b → eqb (ticking_set t.set.now).count 0 ≡ b
  counted b e = rw (ticking-count t.set.now) e

  -- the first pass, of the bands that tick
  ticked : (ps ys : List Float) → PartialsPlayed (partials_of t s.phases) freq g n ps ys
      → PartialsPlayed (partials_voice (ticking_set t.set.now) t.lists.now t.partials.now s.phases) freq g n ps ys
  ticked ps ys P =
      let none : State = state_of s.phases [] (record { state = 0 }) in
      record {
        moves = P.moves ∙ ticking-phases t.set.now t.lists.now t.partials.now [] none freq g n (eqb t.set.now.blend 0);
        written = P.written ∙ ticking-out t.set.now t.lists.now t.partials.now [] none freq g n (eqb t.set.now.blend 0);
      }

  -- LAW: the laws above for it: no entry, no band that ticks, and both passes
  pub toned-still : eqb t.set.now.count 0 ≡ true → (ys : List Float) → ys ≡ up_to (λ i. quotient 0 1) n → Leaves s ys
  toned-still C =
      ends-still (ticking_set t.set.now) t.lists.now t.partials.now t.noise.now s.phases s.memories s.rng freq g n (counted true C)

  pub toned-partials : eqb t.set.now.count 0 ≡ false → (ticking_set t.set.now).live_count ≡ 0 → (ps ys : List Float)
      → PartialsPlayed (partials_of t s.phases) freq g n ps ys → Leaves (state_of ps s.memories s.rng) ys
  toned-partials C L ps ys P =
      ends-partials (ticking_set t.set.now) t.lists.now t.partials.now t.noise.now s.phases s.memories s.rng freq g n (counted false C) L
      ps ys (ticked ps ys P)

  pub toned-noisy : eqb t.set.now.count 0 ≡ false → (r : Rng) (ps ms ys zs : List Float)
      → PartialsPlayed (partials_of t s.phases) freq g n ps ys → NoisePlayed (noise_of t s.memories s.rng) freq g ys (length ys) r ms zs → Leaves (state_of ps ms r) zs
  toned-noisy C r ps ms ys zs P =
      ends-noisy (ticking_set t.set.now) t.lists.now t.partials.now t.noise.now s.phases s.memories s.rng freq g n (counted false C) r
      ps ms ys zs (ticked ps ys P)

-- LAW: a channel that reads the parts of a call's inputs is the call's
pub channel-of-call : (v : Voice) (c : Call) (ch : ℕ) (parts : Inputs) (n : ℕ) (end : State) (ys : List Float) → PartsOf c ch parts → n ≡ c.shape.samples
    → ChannelPlayed v (frequency_in parts) (gains_in parts) n end ys → ChannelPlayed v (frequency_at c ch) (gains_at c ch) c.shape.samples end ys
channel-of-call v c ch parts n end ys R en P = rw (R.freq, R.g0, R.g1, R.g2, R.g3, en) at P
