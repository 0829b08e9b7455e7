-- The columns of a sample's partials put together to the definitions: what moves, and what is audible.
use mathlib.Core.Path.{◌≡◌, refl, sym, ap, ◌∙◌, subst}
use mathlib.Core.List.{List, [], ◌∷◌}
use mathlib.Core.Bool.{Bool, true, cond}
use Prim.Native.Nat.{ℕ, zero, suc, ◌+◌, ◌*◌, ◌≤◌, ◌<◌}
use native.Mathlib.Omega.{arith}
use lib.ListN.{length, get_or}
use lib.Dec.{T, eqb}
use lib.Ieee.{Float, nan, inf, fin, binary32, eq, fits, le}
use Rattle.float.specs.inner.Range.{Within}
use Rattle.float.proofs.Identities.{same_float}
use Rattle.float.specs.F32.{quotient}
use Rattle.player.specs.inner.Columns.{Filled, FilledRows}
use Rattle.voice.specs.Lists.{map_to, steps, every}
use Rattle.filters.specs.Wave.{sine_of}
use Rattle.player.specs.Phase.{advance_of, partial_freq, step_of}
use Rattle.player.specs.inner.Ranges.{AllPhases, AllSteps, Phase, Step}
use Rattle.player.specs.Fade.{nyquist_fade}
use Rattle.voice.specs.Voice.{phase_ok, phases_ok, mainlobes}
use Rattle.player.specs.Sound.{sides_at, step_at, fade_at, partial_row, noise_row, moved_phases, add_single, partial_term, partial_sum}
use Rattle.player.specs.Bracket.{value_between}
use Rattle.player.specs.inner.Terms.{partial_added}
use Rattle.player.specs.inner.Tuning.{Tuned, NoiseTuned, rows_in, constants_at, entries_at, sides_in}
use Rattle.player.specs.declared.pitch.bracket.Sides.{Sides}
use Rattle.player.specs.declared.constants.Constants.{Constants}
use Rattle.player.specs.declared.pitch.entries.Entries.{Entries}
use Rattle.player.specs.declared.pitch.entries.Pitch.{Pitch}
use Rattle.std.specs.Prelude.{Option, Some}
use Rattle.player.specs.declared.tuning.NoiseTuning.{NoiseTuning}
use Rattle.player.specs.declared.tuning.Tuning.{Tuning}
use Rattle.voice.specs.declared.voice.Voice.{Voice}
use Rattle.voice.proofs.Loops.{every-at, at_every, map_to-at}
use Rattle.player.proofs.ColumnLaws.{steps-as}
use Rattle.player.proofs.RangeLaws.{advance-ok, phase-passes, step_small}
use Rattle.player.proofs.SoundLaws.{phase-inside}
use Rattle.player.proofs.TermLaws.{partial-by-one, partial-coeff-as}

-- maps that agree below n
mapped-same : (f g : ℕ → Float → Float) (k n : ℕ) (l : List Float) → ((i : ℕ) (p : Float) → k ≤ i → i < k + n → f i p ≡ g i p) → map_to f k n l ≡ map_to g k n l
unfolding map_to
mapped-same f g k zero l h = refl
mapped-same f g k (suc n) [] h = refl
mapped-same f g k (suc n) (x ∷ l) h =
    ap (λ (z : Float). z ∷ map_to f (suc k) n l) (h k x (omega arith) (omega arith)) ∙ ap (λ (z : List Float). g k x ∷ z) (mapped-same f g (suc k) n l (λ i p a b. h i p (omega arith) (omega arith)))

-- the partials' columns of a voice at the frequency f0
pub record TunedVoice (v : Voice) (f0 : Float) (t : Tuning) : Type 0 where
  pub mainlobe : t.mainlobe ≡ value_between (mainlobes v) (sides_at v f0)
  pub safe : AllSteps t.incs v.set.m
  pub steps-are : Filled t.incs (λ i. step_at v f0 i) v.set.m
  pub fading : Filled t.fades (λ i. fade_at v f0 i) v.set.m
  pub rows_are : FilledRows t.rows (λ q i. partial_row v.partials (sides_at v f0) q i) (cond (eqb v.set.blend 0) 1 v.set.k) v.set.m

abbrev pub TunedTo : Voice → Float → Tuning → Type 0
TunedTo v f0 t = Tuned (constants_at v.set) (entries_at v.set v.lists) v.partials f0 t

pub tuned-voice : (v : Voice) (t : Tuning) (f0 : Float) → TunedTo v f0 t → TunedVoice v f0 t
unfolding sides_at
tuned-voice v t f0 T = record { mainlobe = T.mainlobe; safe = T.safe; steps-are = T.steps; fading = T.fading; rows_are = T.rows_are }

-- a frequency that compares equal to the one that is kept is the same
same-kept : (kept : Option Float) (f0 g was : Float) → kept ≡ Some f0 → T (fits binary32 f0) → Within 20000 1 f0 → T (fits binary32 g) → Within 20000 1 g
    → kept ≡ Some was → eq g was ≡ true → g ≡ f0
same-kept kept f0 g was e F W G U k q =
    let same : was ≡ f0 = cc in
    same_float g f0 G F U.plain-is W.plain-is (ap (λ (z : Float). eq g z) (sym same) ∙ q)

-- columns that are tuned serve every frequency that compares equal: it is the same
pub stays : (v : Voice) (t : Tuning) (f0 : Float) → T (fits binary32 f0) → Within 20000 1 f0 → TunedTo v f0 t
    → (g was : Float) → T (fits binary32 g) → Within 20000 1 g → t.f0 ≡ Some was → eq g was ≡ true → TunedTo v g t
stays v t f0 F W T g was G U k q = subst (λ (z : Float). TunedTo v z t) (sym (same-kept t.f0 f0 g was T.at F W G U k q)) T

-- the live bands' columns, in the same way
abbrev pub NoiseTunedTo : Voice → List ℕ → Float → NoiseTuning → Type 0
NoiseTunedTo v live f0 t = NoiseTuned (constants_at v.set) (entries_at v.set v.lists) v.noise live f0 t

pub noise-stays : (v : Voice) (live : List ℕ) (t : NoiseTuning) (f0 : Float) → T (fits binary32 f0) → Within 20000 1 f0 → NoiseTunedTo v live f0 t
    → (g was : Float) → T (fits binary32 g) → Within 20000 1 g → t.f0 ≡ Some was → eq g was ≡ true → NoiseTunedTo v live g t
noise-stays v live t f0 F W T g was G U k q = subst (λ (z : Float). NoiseTunedTo v live z t) (sym (same-kept t.f0 f0 g was T.at F W G U k q)) T

-- LAW: a NaN is kept for no frequency, since none is equal to it
pub untuned-none : (g : Float) → eq g nan ≡ true → ⊥
unfolding eq
untuned-none nan e = subst T (sym e) tt
untuned-none (inf s) e = subst T (sym e) tt
untuned-none (fin s m d) e = subst T (sym e) tt

module _ (v : Voice) (f0 : Float) (t : Tuning) (T : TunedVoice v f0 t) (ps qs : List Float) (P : phases_ok ps v.set.m ≡ true)
    (Q : qs ≡ map_to (λ i p. advance_of p (get_or t.incs i nan)) 0 v.set.m ps) where
  pub moved-phases : qs ≡ moved_phases v f0 ps
  unfolding moved_phases
  moved-phases = Q ∙ mapped-same _ _ 0 v.set.m ps (λ i p a b. ap (λ (z : Float). advance_of p z) (T.steps-are.at i (omega arith)))

  -- each phase after the step
  at-phase : (i : ℕ) → i < v.set.m → get_or qs i nan ≡ advance_of (get_or ps i nan) (step_at v f0 i)
  at-phase i l =
      ap (λ (z : List Float). get_or z i nan) Q ∙ map_to-at (λ i p. advance_of p (get_or t.incs i nan)) nan v.set.m i ps l (phase-inside ps v.set.m i P l)
      ∙ ap (λ (z : Float). advance_of (get_or ps i nan) z) (T.steps-are.at i l)

  step-phase : (i : ℕ) → i < v.set.m → Phase (get_or qs i nan)
  unfolding phases_ok
  step-phase i l =
      subst (λ (z : Float). Phase z) (sym (ap (λ (z : List Float). get_or z i nan) Q ∙ map_to-at (λ i p. advance_of p (get_or t.incs i nan)) nan v.set.m i ps l (phase-inside ps v.set.m i P l)))
      (advance-ok (get_or ps i nan) (get_or t.incs i nan) (every-at (λ i. phase_ok (get_or ps i nan)) v.set.m i P l) (T.safe.at i l))

  pub all-phases : AllPhases qs v.set.m
  all-phases = record { at = step-phase }

  pub phases-kept : phases_ok qs v.set.m ≡ true
  unfolding phases_ok
  phases-kept = at_every (λ i. phase_ok (get_or qs i nan)) v.set.m (λ i l. phase-passes (get_or qs i nan) (step-phase i l))

  module _ (g sines : List Float) (S : Filled sines (λ i. sine_of (get_or qs i nan)) v.set.m) where
    sine-at : (i : ℕ) → i < v.set.m → get_or sines i nan ≡ sine_of (advance_of (get_or ps i nan) (step_at v f0 i))
    sine-at i l = S.at i l ∙ ap (λ (z : Float). sine_of z) (at-phase i l)

    each : (i : ℕ) → i < v.set.m → (y : Float) → partial_added (constants_at v.set) t g sines i y ≡ partial_term v f0 g i y (advance_of (get_or ps i nan) (step_at v f0 i))
    unfolding add_single
    each i l y =
        rw (partial-coeff-as v.set.blend v.set.k (λ q. get_or t.rows (q * 32 + i) nan) (λ q. partial_row v.partials (sides_at v f0) q i) g (λ q h. T.rows_are.at q i h l), T.mainlobe, T.fading.at i l, sine-at i l)
        (partial-by-one v f0 g i y (advance_of (get_or ps i nan) (step_at v f0 i)))

    -- LAW: what `partial_sum` ensures is the sum of the partials
    pub partial-sum-is : (y : Float) → y ≡ steps (λ i y. partial_added (constants_at v.set) t g sines i y) (quotient 0 1) v.set.m → y ≡ partial_sum v f0 g ps
    unfolding partial_sum
    partial-sum-is y e = e ∙ steps-as _ _ (quotient 0 1) v.set.m each

-- ---- columns that are filled anew
-- LAW: what `tune` fills is tuned to f0
pub tuned-is : (x : Constants) (e : Entries) (partials : List Float) (f0 : Float) (p : Pitch) (freqs incs fades rows : List Float) (k : ℕ) (b : Bool)
    → (p.f0 ≡ f0) × (p.s ≡ sides_in e f0) × (p.stretch ≡ value_between e.stretch p.s) × (p.mainlobe ≡ value_between e.mainlobe_gain p.s)
    → Within 8 1 p.stretch → Within 20000 1 f0 → Within 1 4096 x.inv → x.m ≤ 32 → k ≡ rows_in x
    → Filled freqs (λ i. partial_freq (i + 1) f0 p.stretch) x.m
    → Filled incs (λ i. step_of (i + 1) f0 p.stretch x.inv) x.m → Filled fades (λ i. nyquist_fade (get_or freqs i nan) x.nyquist) x.m
    → FilledRows rows (λ q i. partial_row partials p.s q i) k x.m → b ≡ every (λ i. le (get_or incs i nan) (quotient 31 32)) x.m
    → Tuned x e partials f0 (record { f0 = Some f0; freqs = freqs; mainlobe = p.mainlobe; small = b; incs = incs; fades = fades; rows = rows })
tuned-is x e partials f0 p freqs incs fades rows k b P W F I M ek A B C R S =
    let stretch-is : p.stretch ≡ value_between e.stretch (sides_in e f0) = P.2 ∙ ap (λ (z : Sides). value_between e.stretch z) P.1 in
    record {
      at = refl;
      mainlobe = P.3 ∙ ap (λ (z : Sides). value_between e.mainlobe_gain z) P.1;
      small = S;
      safe = record { at = λ i l. subst (λ (z : Float). Step z) (sym (B.at i l)) (step_small (i + 1) f0 p.stretch x.inv (omega arith) F W I) };
      steps = record { at = λ i l. B.at i l ∙ ap (λ (z : Float). step_of (i + 1) f0 z x.inv) stretch-is };
      fading = record { at = λ i l. C.at i l ∙ ap (λ (z : Float). nyquist_fade z x.nyquist) (A.at i l ∙ ap (λ (z : Float). partial_freq (i + 1) f0 z) stretch-is) };
      rows_are = record { at = λ q i h l. R.at q i (rw ek h) l ∙ ap (λ (z : Sides). partial_row partials z q i) P.1 };
    }

-- LAW: and so are the live bands' columns
pub noise-tuned-is : (x : Constants) (e : Entries) (noise : List Float) (live : List ℕ) (f0 : Float) (s : Sides) (rows : List Float) (k : ℕ) (y : Float) → s ≡ sides_in e f0 → k ≡ rows_in x
    → FilledRows rows (λ q l. noise_row noise s q (get_or live l 0)) k (length live) → y ≡ value_between e.noise_gain s
    → NoiseTuned x e noise live f0 (record { f0 = Some f0; noise_gain = y; rows = rows })
noise-tuned-is x e noise live f0 s rows k y es ek N ey = record {
  at = refl;
  noise-gain = ey ∙ ap (λ (z : Sides). value_between e.noise_gain z) es;
  rows_are = record { at = λ q l h a. N.at q l (rw ek h) a ∙ ap (λ (z : Sides). noise_row noise z q (get_or live l 0)) es };
}
