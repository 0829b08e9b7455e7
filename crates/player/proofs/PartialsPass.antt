-- The pass over the partials: from sample to sample the columns hold the phases of the definitions, and each sum is `partial_sum`'s.
use mathlib.Core.Path.{◌≡◌, refl, sym, ap, ◌∙◌, subst}
use mathlib.Core.List.{List, ◌++◌}
use mathlib.Core.Bool.{Bool, true, false}
use Prim.Native.Nat.{ℕ, ◌+◌, ◌≤◌, ◌<◌}
use native.Mathlib.Omega.{arith}
use lib.ListN.{length, get_or, set, drop}
use lib.Dec.{T, eqb}
use lib.Ieee.{Float, nan, binary32, eq, fits}
use Rattle.float.specs.inner.Range.{Within}
use Rattle.float.proofs.Identities.{same_float}
use Rattle.float.specs.F32.{quotient}
use Rattle.player.specs.inner.Columns.{Filled}
use Rattle.voice.specs.Lists.{map_to, up_to, steps}
use Rattle.filters.specs.Wave.{sine_of}
use Rattle.player.specs.Phase.{advance_of, inverse_of, step_of}
use Rattle.voice.specs.Input.{cleaned}
use Rattle.player.specs.Bracket.{value_between}
use Rattle.voice.specs.Voice.{phase_ok, phases_ok, stretches, mainlobes}
use Rattle.player.specs.Sound.{sides_at, step_at, partial_term, partial_sum, moved_phases}
use Rattle.player.specs.inner.Passes.{EntriesFit, PartialsPlayed, phases_at, partials_out}
use Rattle.player.specs.inner.Terms.{partial_added, sample_added}
use Rattle.player.specs.inner.Tuning.{PitchAt, constants_at, entries_at}
use Rattle.std.specs.Prelude.{Option, Some, None}
use Rattle.player.specs.declared.constants.Constants.{Constants}
use Rattle.player.specs.declared.pitch.entries.Pitch.{Pitch}
use Rattle.player.specs.declared.tuning.Tuning.{Tuning}
use Rattle.voice.specs.declared.voice.Voice.{Voice}
use Rattle.voice.proofs.Loops.{steps-again, every-at, at_every, map_to-at, up_to-again, up_to-full}
use Rattle.player.proofs.RangeLaws.{advance-ok, phase-passes, step_small}
use Rattle.player.proofs.ColumnLaws.{steps-as}
use Rattle.player.proofs.SoundLaws.{inverse-small, phase-inside}
use Rattle.player.proofs.TermLaws.{partial-by-one}
use Rattle.player.proofs.PartialLaws.{TunedTo, TunedVoice, tuned-voice, stays, moved-phases, phases-kept, partial-sum-is}

-- the phases after a sample
pub phases-again : (v : Voice) (freq : ℕ → Float) (i : ℕ) (ps qs : List Float) (f0 : Float) → ps ≡ phases_at v freq i → f0 ≡ cleaned (freq i) → qs ≡ moved_phases v f0 ps → qs ≡ phases_at v freq (i + 1)
unfolding phases_at
phases-again v freq i ps qs f0 e ef eq = eq ∙ ap (λ (z : Float). moved_phases v z ps) ef ∙ steps-again (λ t ps. moved_phases v (cleaned (freq t)) ps) v.state.phases ps i e

pub phases-first : (v : Voice) (freq : ℕ → Float) → v.state.phases ≡ phases_at v freq 0
unfolding phases_at steps
phases-first v freq = refl

-- the samples: a turn of the loop writes one
module _ (v : Voice) (freq : ℕ → Float) (g : ℕ → List Float) where
  pub partials-out-first : (l : List Float) → l ≡ partials_out v freq g 0 ++ drop 0 l
  unfolding partials_out up_to
  partials-out-first l = refl

  pub partials-out-again : (i : ℕ) (l ls : List Float) (y : Float) → i < length l → ls ≡ partials_out v freq g i ++ drop i l → y ≡ partial_sum v (cleaned (freq i)) (g i) (phases_at v freq i)
      → set ls i y ≡ partials_out v freq g (i + 1) ++ drop (i + 1) l
  unfolding partials_out
  partials-out-again i l ls y h e ey = ap (λ (z : Float). set ls i z) ey ∙ up_to-again (λ i. partial_sum v (cleaned (freq i)) (g i) (phases_at v freq i)) i l ls h e

  -- LAW: and after the last turn the pass is played
  pub partials-out-full : (i n : ℕ) (l ls ps : List Float) → i ≡ n → length l ≡ n → ls ≡ partials_out v freq g i ++ drop i l
      → ps ≡ phases_at v freq i → PartialsPlayed v freq g n ps ls
  unfolding partials_out
  partials-out-full i n l ls ps q h e p = record {
    moves = p ∙ ap (λ (z : ℕ). phases_at v freq z) q;
    written = up_to-full (λ i. partial_sum v (cleaned (freq i)) (g i) (phases_at v freq i)) i n l ls q h e;
  }

-- before sample i the phases are those of the definitions, and the columns are tuned to every frequency that compares equal to the one kept
pub record PartialsAt (v : Voice) (freq : ℕ → Float) (i : ℕ) (phases : List Float) (t : Tuning) : Type 0 where
  pub phases-are : phases ≡ phases_at v freq i
  pub ok : phases_ok phases v.set.m ≡ true
  pub tuned : (f was : Float) → T (fits binary32 f) → Within 20000 1 f → t.f0 ≡ Some was → eq f was ≡ true → TunedTo v f t

module _ (v : Voice) (freq : ℕ → Float) (g : ℕ → List Float) where
  pub partials-at-first : (t : Tuning) → phases_ok v.state.phases v.set.m ≡ true → t.f0 ≡ None → PartialsAt v freq 0 v.state.phases t
  partials-at-first t h e = record { phases-are = phases-first v freq; ok = h; tuned = λ f was F W k q. cc }

  -- one sample
  module _ (i : ℕ) (phases : List Float) (t₀ : Tuning) (G : PartialsAt v freq i phases t₀) (f0 : Float) (ef : f0 ≡ cleaned (freq i)) (F : T (fits binary32 f0)) (W : Within 20000 1 f0)
      (t : Tuning) (U : TunedTo v f0 t) (qs : List Float) (Q : qs ≡ map_to (λ i p. advance_of p (get_or t.incs i nan)) 0 v.set.m phases) where
    held : TunedVoice v f0 t
    held = tuned-voice v t f0 U

    -- LAW: the columns hold the phases after the sample
    pub partials-at-next : PartialsAt v freq (i + 1) qs t
    partials-at-next = record {
      phases-are = phases-again v freq i phases qs f0 G.phases-are ef (moved-phases v f0 t held phases qs G.ok Q);
      ok = phases-kept v f0 t held phases qs G.ok Q;
      tuned = λ f was H X k q. stays v t f0 F W U f was H X k q;
    }

    -- LAW: what is stored is the sum of the partials
    pub sounds : (h sines : List Float) (y : Float) → h ≡ g i → Filled sines (λ i. sine_of (get_or qs i nan)) v.set.m
        → y ≡ steps (λ i y. partial_added (constants_at v.set) t h sines i y) (quotient 0 1) v.set.m
        → y ≡ partial_sum v (cleaned (freq i)) (g i) (phases_at v freq i)
    sounds h sines y eh A e =
        partial-sum-is v f0 t held phases qs G.ok Q h sines A y e
        ∙ ap (λ (z : List Float). partial_sum v f0 h z) G.phases-are ∙ ap (λ (z : Float). partial_sum v z h (phases_at v freq i)) ef ∙ ap (λ (z : List Float). partial_sum v (cleaned (freq i)) z (phases_at v freq i)) eh

-- ---- few partials: one after the other
-- p is what the frequency f0 decides of a sample by itself
abbrev pub PitchOf : Voice → Float → Pitch → Type 0
PitchOf v f0 p =
    (p.f0 ≡ f0) × (p.s ≡ sides_at v f0) × (p.stretch ≡ value_between (stretches v) p.s) × (p.mainlobe ≡ value_between (mainlobes v) p.s)

-- and in its range, as the pass keeps it
abbrev pub PitchKept : Voice → Float → Pitch → Type 0
PitchKept v f0 p = PitchAt (entries_at v.set v.lists) f0 p

pub pitch-of : (v : Voice) (p : Pitch) (f0 : Float) → PitchKept v f0 p → PitchOf v f0 p
unfolding sides_at
pitch-of v p f0 P = (P.at, P.sides-are, P.stretch-is, P.mainlobe-is)

-- LAW: phases that pass the test step to phases that pass it
phases-step : (m : ℕ) (f0 stretch inv : Float) (ps : List Float) → m ≤ 32 → Within 20000 1 f0 → Within 8 1 stretch → Within 1 4096 inv → phases_ok ps m ≡ true
    → phases_ok (map_to (λ i p. advance_of p (step_of (i + 1) f0 stretch inv)) 0 m ps) m ≡ true
unfolding phases_ok
phases-step m f0 stretch inv ps M F S I h =
    at_every (λ i. phase_ok (get_or (map_to (λ i p. advance_of p (step_of (i + 1) f0 stretch inv)) 0 m ps) i nan)) m
    (λ i l.
    let o = every-at (λ i. phase_ok (get_or ps i nan)) m i h l in
    ap (λ (z : Float). phase_ok z) (map_to-at (λ i p. advance_of p (step_of (i + 1) f0 stretch inv)) nan m i ps l (phase-inside ps m i h l))
    ∙ phase-passes _ (advance-ok (get_or ps i nan) (step_of (i + 1) f0 stretch inv) o (step_small (i + 1) f0 stretch inv (omega arith) F S I)))

module _ (v : Voice) (f0 : Float) (p : Pitch) (P : PitchOf v f0 p) where
  abbrev x : Constants
  x = constants_at v.set

  abbrev moved_by : Pitch → List Float → List Float
  moved_by p ps = map_to (λ i ph. advance_of ph (step_of (i + 1) p.f0 p.stretch x.inv)) 0 x.m ps

  -- LAW: what `sample_of` answers is the sum of the partials
  pub sample-of-is : (g ps : List Float) (y : Float) → y ≡ steps (λ i y. sample_added x p v.partials g ps i y) (quotient 0 1) x.m
      → y ≡ partial_sum v f0 g ps
  unfolding partial_sum
  sample-of-is g ps y e =
      e
      ∙ rw (P.2, P.3, P.1, P.0)
      (steps-as _ _ (quotient 0 1) v.set.m (λ i l y. partial-by-one v f0 g i y (advance_of (get_or ps i nan) (step_at v f0 i))))

  -- LAW: its phases are those after the sample
  pub phases-is : (ps ls : List Float) → ls ≡ moved_by p ps → ls ≡ moved_phases v f0 ps
  unfolding moved_phases
  phases-is ps ls e = e ∙ rw (P.2, P.1, P.0)

  -- LAW: and they pass the test of phases
  pub phases-keep : (ps ls : List Float) → EntriesFit v.set v.lists → Within 20000 1 f0 → Within 8 1 p.stretch → ls ≡ moved_by p ps
      → phases_ok ps v.set.m ≡ true → phases_ok ls v.set.m ≡ true
  phases-keep ps ls F W S e h =
      let w : Within 20000 1 p.f0 = subst (λ (z : Float). Within 20000 1 z) (sym P.0) W in
      ap (λ (z : List Float). phases_ok z v.set.m) e ∙ phases-step v.set.m p.f0 p.stretch x.inv ps F.sizes.1 w S (inverse-small v.set v.lists F) h

  -- a single voice sounds by gain 0 alone
  gains-alike : (ps g h : List Float) → get_or h 0 nan ≡ get_or g 0 nan → (eqb v.set.blend 0 ≡ false → h ≡ g) → partial_sum v f0 h ps ≡ partial_sum v f0 g ps
  unfolding partial_sum partial_term
  gains-alike ps g h e k = go (eqb v.set.blend 0) refl
    where
      go : (b : Bool) → eqb v.set.blend 0 ≡ b → partial_sum v f0 h ps ≡ partial_sum v f0 g ps
      go true q = rw (q, e)
      go false q = ap (λ (z : List Float). partial_sum v f0 z ps) (k q)

  -- LAW: the sum is the definition's, where the phases were
  pub few-sounds : (freq : ℕ → Float) (g : ℕ → List Float) (i : ℕ) (h ps : List Float) (y : Float) → f0 ≡ cleaned (freq i) → (get_or h 0 nan ≡ get_or (g i) 0 nan) × (eqb v.set.blend 0 ≡ false → h ≡ g i) → ps ≡ phases_at v freq i → y ≡ partial_sum v f0 h ps
      → y ≡ partial_sum v (cleaned (freq i)) (g i) (phases_at v freq i)
  few-sounds freq g i h ps y ef eh ep e = e ∙ gains-alike ps (g i) h eh.0 eh.1 ∙ rw (ef, ep)

-- what a frequency decides serves every frequency that compares equal: it is the same
pub pitch-stays : (v : Voice) (p : Pitch) (f0 : Float) → T (fits binary32 f0) → Within 20000 1 f0 → PitchKept v f0 p
    → (f : Float) (was : Pitch) → T (fits binary32 f) → Within 20000 1 f → Some p ≡ Some was → eq f was.f0 ≡ true → PitchKept v f was
pitch-stays v p f0 F W P f was H X k q =
    let e : p ≡ was = cc in
    let same : f ≡ f0 = same_float f f0 H F X.plain-is W.plain-is (ap (λ (z : Float). eq f z) (sym P.at) ∙ ap (λ (z : Pitch). eq f z.f0) e ∙ q) in
    rw (← e, same) P

-- before sample i: the phases, and what is kept serves every frequency that compares equal
pub record FewAt (v : Voice) (freq : ℕ → Float) (i : ℕ) (phases : List Float) (kept : Option Pitch) : Type 0 where
  pub phases-are : phases ≡ phases_at v freq i
  pub ok : phases_ok phases v.set.m ≡ true
  pub pitched : (f : Float) (p : Pitch) → T (fits binary32 f) → Within 20000 1 f → kept ≡ Some p → eq f p.f0 ≡ true → PitchKept v f p

pub few-at-first : (v : Voice) (freq : ℕ → Float) → phases_ok v.state.phases v.set.m ≡ true → FewAt v freq 0 v.state.phases None
few-at-first v freq h = record { phases-are = phases-first v freq; ok = h; pitched = λ f p F W k q. cc }

pub few-at-next : (v : Voice) (freq : ℕ → Float) (i : ℕ) (ps qs : List Float) (kept : Option Pitch) (f0 : Float) (p : Pitch) → FewAt v freq i ps kept → EntriesFit v.set v.lists
    → f0 ≡ cleaned (freq i) → T (fits binary32 f0) → Within 20000 1 f0 → PitchKept v f0 p → qs ≡ map_to (λ i ph. advance_of ph (step_of (i + 1) p.f0 p.stretch (inverse_of v.set.sample_rate))) 0 v.set.m ps
    → FewAt v freq (i + 1) qs (Some p)
few-at-next v freq i ps qs kept f0 p G N ef F W P e = record {
  phases-are = phases-again v freq i ps qs f0 G.phases-are ef (phases-is v f0 p (pitch-of v p f0 P) ps qs e);
  ok = phases-keep v f0 p (pitch-of v p f0 P) ps qs N W P.small e G.ok;
  pitched = λ f was H X k q. pitch-stays v p f0 F W P f was H X k q;
}
