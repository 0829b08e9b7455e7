-- The pass over the live bands: from sample to sample the columns hold the memories of the definitions, and each sample is `noisy`'s.
use mathlib.Core.Path.{◌≡◌, refl, sym, ap, ◌∙◌, subst}
use mathlib.Core.List.{List, ◌++◌}
use mathlib.Core.Bool.{Bool, true, false, cond}
use Prim.Native.Nat.{ℕ, ◌+◌, ◌<◌}
use lib.ListN.{length, get_or, set, drop}
use lib.Dec.{T, eqb}
use lib.Ieee.{Float, nan, binary32, eq, fits}
use Rattle.float.specs.inner.Range.{Within}
use Rattle.voice.specs.Lists.{up_to, steps}
use Rattle.voice.specs.Input.{cleaned}
use Rattle.filters.specs.Rng.{next_bipolar}
use Rattle.player.specs.inner.Tuning.{constants_at, entries_at, rows_in}
use Rattle.voice.specs.Voice.{band_at, memory_at, compensations}
use Rattle.player.proofs.ColumnLaws.{steps-as}
use Rattle.std.specs.Prelude.{Some, None}
use Rattle.player.specs.Sound.{sides_at, noise_row, noise_in, moved_memories, moved_rng}
use Rattle.player.specs.Bands.{ticking_set, all_live}
use Rattle.player.specs.inner.Passes.{LiveFit, LiveOf, rng_at, memories_at, noisy, noise_out}
use Rattle.player.specs.inner.Columns.{LiveFits, Memories, Coeffs, Ticked, Filled, FilledRows, scattered}
use Rattle.player.specs.inner.Bands.{Fixed, Gathered, Ticks}
use Rattle.player.specs.declared.noise.bands.BandColumns.{BandColumns}
use Rattle.player.specs.inner.Terms.{noise_added}
use Rattle.voice.specs.declared.voice.Setting.{Setting}
use Rattle.filters.specs.declared.rng.Bipolar.{Bipolar}
use Rattle.filters.specs.declared.rng.Rng.{Rng}
use Rattle.player.specs.declared.tuning.NoiseTuning.{NoiseTuning}
use Rattle.voice.specs.declared.voice.Voice.{Voice}
use Rattle.voice.proofs.Loops.{steps-again, up_to-read, up_to-again, up_to-full}
use Rattle.player.proofs.PartialLaws.{NoiseTunedTo, noise-stays}
use Rattle.player.proofs.BandColumns.{AgreeOff, agree_same, agree-moved, length-memories, memories-moved, filtered-at, scattered-is, sum-is-sample}

pub rng-again : (v : Voice) (i : ℕ) (r s : Rng) → r ≡ rng_at v i → s ≡ moved_rng v r → s ≡ rng_at v (i + 1)
unfolding rng_at
rng-again v i r s e q = q ∙ steps-again (λ t r. moved_rng v r) v.state.rng r i e

pub memories-again : (v : Voice) (i : ℕ) → moved_memories v (rng_at v i) (memories_at v i) ≡ memories_at v (i + 1)
unfolding memories_at
memories-again v i = steps-again (λ t ms. moved_memories v (rng_at v t) ms) v.state.memories (memories_at v i) i refl

-- the samples: a turn of the loop reads one and writes it
module _ (v : Voice) (freq : ℕ → Float) (g : ℕ → List Float) where
  pub noise-out-first : (l : List Float) → l ≡ noise_out v freq g l 0 ++ drop 0 l
  unfolding noise_out up_to
  noise-out-first l = refl

  pub noise-out-again : (i : ℕ) (l ls : List Float) (y : Float) → i < length l → ls ≡ noise_out v freq g l i ++ drop i l → y ≡ noisy v freq g i (get_or ls i nan) → set ls i y ≡ noise_out v freq g l (i + 1) ++ drop (i + 1) l
  unfolding noise_out
  noise-out-again i l ls y h e ey =
      ap (λ (z : Float). set ls i z) (ey ∙ ap (λ (z : Float). noisy v freq g i z) (up_to-read (λ i. noisy v freq g i (get_or l i nan)) i l ls nan h e)) ∙ up_to-again (λ i. noisy v freq g i (get_or l i nan)) i l ls h e

  pub noise-out-full : (i n : ℕ) (l ls : List Float) → i ≡ n → length l ≡ n → ls ≡ noise_out v freq g l i ++ drop i l → ls ≡ noise_out v freq g l n
  unfolding noise_out
  noise-out-full i n l ls q h e = up_to-full (λ i. noisy v freq g i (get_or l i nan)) i n l ls q h e

-- ---- the bands that tick, as the pass is handed them
pub live-fits : (s : Setting) (live : List ℕ) → LiveOf s live → LiveFit (ticking_set s) → LiveFits live
live-fits s live L K = record {
  most = rw L.count K.most;
  inside = record { below = λ l h. rw (L.bands l h) (K.inside.below l (rw (sym L.count) h)) };
}

-- what stays through a channel does not ask which bands tick
pub ticking-constants : (s : Setting) → constants_at (ticking_set s) ≡ constants_at s
ticking-constants s = go (eqb s.blend 0)
  where
    go : (b : Bool) → constants_at (cond b (all_live s) s) ≡ constants_at s
    go true = refl
    go false = refl

pub ticking-entries : (s : Setting) (lists : List Float) → entries_at (ticking_set s) lists ≡ entries_at s lists
ticking-entries s lists = go (eqb s.blend 0)
  where
    go : (b : Bool) → entries_at (cond b (all_live s) s) lists ≡ entries_at s lists
    go true = refl
    go false = refl

-- before sample i the columns hold the state of the definitions, and are tuned to every frequency that compares equal to the one kept
pub record BandsAt (v : Voice) (live : List ℕ) (i : ℕ) (bands : BandColumns) (rng : Rng) (t : NoiseTuning) : Type 0 where
  pub rng-is : rng ≡ rng_at v i
  pub memories-are : Memories bands.z1 bands.z2 (memories_at v i) v.set.live v.set.live_count
  pub fixed : Fixed bands v.lists live
  pub long : length (memories_at v i) ≡ 32
  pub off : AgreeOff (memories_at v i) v.state.memories v.set.live v.set.live_count
  pub tuned : (f was : Float) → T (fits binary32 f) → Within 20000 1 f → t.f0 ≡ Some was → eq f was ≡ true → NoiseTunedTo v live f t

module _ (v : Voice) (K : LiveFit v.set) (live : List ℕ) (en : length live ≡ v.set.live_count)
    (eb : (l : ℕ) → l < length live → get_or live l 0 ≡ get_or v.set.live l 0) (L : length v.state.memories ≡ 32) where
  -- a place of the list that is handed to the pass is that of the voice's
  place : (l : ℕ) → l < v.set.live_count → (l < length live) × (get_or live l 0 ≡ get_or v.set.live l 0)
  place l h = let k : l < length live = rw en h in (k, eb l k)

  pub bands-at-first : (bands : BandColumns) (t : NoiseTuning) → Gathered bands v.lists v.state.memories live → t.f0 ≡ None → BandsAt v live 0 bands v.state.rng t
  unfolding rng_at memories_at steps
  bands-at-first bands t G e = record {
    rng-is = refl;
    memories-are = record { at = λ l h. let p = place l h in ap (λ (b : ℕ). memory_at v.state.memories b) (sym p.1) ∙ G.memories-are.at l p.0 };
    fixed = G.fixed;
    long = L;
    off = agree_same v.state.memories v.set.live v.set.live_count;
    tuned = λ f was F W k q. cc;
  }

  -- LAW: at the end the memories go back to their places
  pub bands-at-last : (i n : ℕ) (bands : BandColumns) (rng : Rng) (t : NoiseTuning) (ms : List Float) → i ≡ n → BandsAt v live i bands rng t
      → ms ≡ scattered live bands.z1 bands.z2 v.state.memories (length live) → (rng ≡ rng_at v n) × (ms ≡ memories_at v n)
  bands-at-last i n bands rng t ms q G e =
      let d : ms ≡ scattered v.set.live bands.z1 bands.z2 v.state.memories v.set.live_count =
      e ∙ rw en (steps-as _ _ v.state.memories v.set.live_count (λ l h xs. rw (place l h).1)) in (
        G.rng-is ∙ ap (λ (z : ℕ). rng_at v z) q,
        d ∙ scattered-is v K bands.z1 bands.z2 (memories_at v i) v.state.memories G.long L G.off G.memories-are ∙ ap (λ (z : ℕ). memories_at v z) q,
      )

  -- one sample
  module _ (freq : ℕ → Float) (g : ℕ → List Float) (i : ℕ) (old : BandColumns) (rng : Rng) (t₀ : NoiseTuning) (G : BandsAt v live i old rng t₀)
      (f0 : Float) (ef : f0 ≡ cleaned (freq i)) (F : T (fits binary32 f0)) (W : Within 20000 1 f0) (t : NoiseTuning) (U : NoiseTunedTo v live f0 t)
      (next : Bipolar) (enext : (next.value ≡ noise_in rng) × (next.rng ≡ cond (eqb (length live) 0) rng (next_bipolar rng).rng))
      (new : BandColumns) (S : Ticks old new next.value (length live)) where
    noise-value : next.value ≡ noise_in (rng_at v i)
    noise-value = enext.0 ∙ ap (λ (z : Rng). noise_in z) G.rng-is

    coeffs-are : Coeffs old.coeffs v.lists v.set.live v.set.live_count
    coeffs-are = record { at = λ l h. let p = place l h in ap (λ (b : ℕ). band_at v.lists b) (sym p.1) ∙ G.fixed.coeffs-are.at l p.0 }

    ticked-are : Ticked new.ys new.z1 new.z2 old.z1 old.z2 old.coeffs next.value v.set.live_count
    ticked-are = rw en at S.ticked

    -- LAW: the columns hold the memories after the sample
    pub bands-at-next : BandsAt v live (i + 1) new next.rng t
    unfolding moved_rng
    bands-at-next = record {
      rng-is = rng-again v i rng next.rng G.rng-is (enext.1 ∙ rw en);
      memories-are =
          subst (λ (ms : List Float). Memories new.z1 new.z2 ms v.set.live v.set.live_count) (memories-again v i)
          (memories-moved v K (rng_at v i) (memories_at v i) next.value new.ys new.z1 new.z2 old.z1 old.z2 old.coeffs noise-value G.memories-are coeffs-are ticked-are G.long);
      fixed = record { coeffs-are = rw S.coeffs-stay G.fixed.coeffs-are; makeup-is = rw S.makeup-stays G.fixed.makeup-is };
      long = ap (λ (ms : List Float). length ms) (sym (memories-again v i)) ∙ length-memories v K (rng_at v i) (memories_at v i) ∙ G.long;
      off =
          subst (λ (ms : List Float). AgreeOff ms v.state.memories v.set.live v.set.live_count) (memories-again v i)
          (agree-moved v K (rng_at v i) (memories_at v i) v.state.memories G.off);
      tuned = λ f was H X k q. noise-stays v live t f0 F W U f was H X k q;
    }

    rows-are : FilledRows t.rows (λ q l. noise_row v.noise (sides_at v f0) q (get_or v.set.live l 0)) (rows_in (constants_at v.set)) v.set.live_count
    unfolding sides_at
    rows-are = record {
      at = λ q l a h. let p = place l h in U.rows_are.at q l a p.0 ∙ ap (λ (b : ℕ). noise_row v.noise (sides_at v f0) q b) p.1;
    }

    makeup-is : Filled new.makeup (λ l. get_or (compensations v) (get_or v.set.live l 0) nan) v.set.live_count
    makeup-is = record {
      at = λ l h. let p = place l h in bands-at-next.fixed.makeup-is.at l p.0 ∙ ap (λ (b : ℕ). get_or (compensations v) b nan) p.1;
    }

    -- LAW: what is stored is the sample
    pub noisy-sounds : (h : List Float) (partials y : Float) → h ≡ g i → y ≡ steps (λ l y. noise_added (constants_at v.set) t h new l y) partials (length live) → y ≡ noisy v freq g i partials
    unfolding sides_at noisy
    noisy-sounds h partials y eh ey =
        sum-is-sample v K (rng_at v i) (memories_at v i) f0 h t new U.noise-gain rows-are makeup-is
        (filtered-at v K (rng_at v i) (memories_at v i) next.value new.ys new.z1 new.z2 old.z1 old.z2 old.coeffs noise-value G.memories-are coeffs-are ticked-are) partials y (ey ∙ rw en)
        ∙ rw (ef, eh)
