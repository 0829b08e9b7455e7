-- The parts of a sample as the loops work them out, put together to `sound` and `moved`; what a sample keeps of the voice rules.
use mathlib.Core.Path.{◌≡◌, refl, sym, ap, ◌∙◌, subst}
use mathlib.Core.List.{List, [], ◌∷◌}
use mathlib.Core.Bool.{Bool, true, false, cond, ◌&&◌, ◌||◌}
use Prim.Native.Nat.{ℕ, zero, suc, ◌+◌, ◌*◌, ◌%◌, ◌≤◌, ◌<◌}
use native.Mathlib.Omega.{arith}
use lib.ListN.{length, get_or, take, drop, get_or-eq_default, length-take}
use lib.Seq.{get_or-take, get_or-drop}
use mathlib.Core.Logic.{⊎_elim}
use Rattle.float.proofs.Finite.{shown}
use Rattle.float.proofs.Bounds.{le-or-lt}
use lib.Dec.{eqb, ltb, lit≤}
use lib.Ieee.{Float, nan, inf, fin, round, le, lt, eq}
use borrow.Author.Tests.{ltb-true, not-true}
use Rattle.float.specs.inner.Range.{Within}
use Rattle.float.proofs.Within.{le→cross}
use Rattle.float.proofs.Fraction.{not-lt}
use Rattle.float.specs.F32.{quotient}
use Rattle.voice.specs.Lists.{up_to, every}
use Rattle.player.specs.Phase.{inverse_of}
use Rattle.voice.specs.Input.{part_of, frequency_of, frequency_ok, frequencies_ok, cleaned}
use Rattle.player.specs.inner.Passes.{EntriesFit, LiveFit, VoiceFits, FrequenciesFit, frequency_in}
use Rattle.player.specs.inner.Tuning.{EntriesIn, entries_at}
use Rattle.voice.specs.declared.inputs.Inputs.{Inputs}
use Rattle.player.specs.inner.Ranges.{SidesIn}
use Rattle.voice.specs.Voice.{phase_ok, pitch_ok, stretch_ok, phases_ok, counts_ok, entries_ok, live_ok, pitches_ascend, bands_ascend, keeps_rules, pitches, stretches}
use Rattle.player.specs.Sound.{sound, moved}
use Rattle.player.specs.Block.{state_at, channel_out}
use Rattle.player.specs.declared.pitch.bracket.Sides.{Sides}
use Rattle.voice.specs.declared.voice.Setting.{Setting}
use Rattle.voice.specs.declared.voice.Voice.{Voice}
use Rattle.voice.proofs.Loops.{both_true, every-at, steps-same, length-up_to, read-any}
use Rattle.voice.proofs.QuestionLaws.{kept, counts-are}
use Rattle.player.proofs.PhaseLaws.{inverse-within}
use Rattle.filters.proofs.Tests.{rate-is}

-- ---- a channel
module _ (v : Voice) (freq : ℕ → Float) (g : ℕ → List Float) where
  pub length-channel : (n : ℕ) → length (channel_out v freq g n) ≡ n
  unfolding channel_out
  length-channel n = length-up_to (λ i. sound v (state_at v freq i) (cleaned (freq i)) (g i)) n

  -- a voice with no entry does not move, and is silent
  pub still : (n : ℕ) → eqb v.set.count 0 ≡ true → v.state ≡ state_at v freq n
  unfolding state_at moved
  still n C = rw C (sym (steps-same v.state n))

  pub silent : (n : ℕ) → eqb v.set.count 0 ≡ true → up_to (λ i. quotient 0 1) n ≡ channel_out v freq g n
  unfolding channel_out sound
  silent n C = rw C

-- ---- ranges
-- past the end of a list
inside : (l : List Float) (i : ℕ) → (get_or l i nan ≡ nan → ⊥) → i < length l
inside [] i h = absurd (h refl)
inside (x ∷ l) zero h = omega arith
inside (x ∷ l) (suc i) h = let k = inside l i h in omega arith

no-phase : (x : Float) → x ≡ nan → phase_ok x ≡ true → ⊥
unfolding le lt eq round
no-phase x e h = absurd (shown (phase_ok nan) (ap (λ (z : Float). phase_ok z) (sym e) ∙ h))

-- a phase that passes the test is in the list
pub phase-inside : (ps : List Float) (m i : ℕ) → phases_ok ps m ≡ true → i < m → i < length ps
unfolding phases_ok
phase-inside ps m i h l = inside ps i (λ e. no-phase (get_or ps i nan) e (every-at (λ i. phase_ok (get_or ps i nan)) m i h l))

-- LAW: the frequency that is played is from 0 to 20,000 where question 16 is answered yes
pub cleaned-within : (f : Float) → frequency_ok f ≡ true → Within 20000 1 (cleaned f)
unfolding cleaned round lt
cleaned-within nan h = record { plain-is = tt; upper = lit≤ tt }
cleaned-within (inf s) h = record { plain-is = tt; upper = lit≤ tt }
cleaned-within (fin true m e) h = record { plain-is = tt; upper = lit≤ tt }
cleaned-within (fin false m e) h = go (lt (quotient 0 1) (fin false m e))
  where
    go : (b : Bool) → Within 20000 1 (cond b (fin false m e) (quotient 0 1))
    go true = record { plain-is = tt; upper = le→cross (fin false m e) (quotient 20000 1) tt tt (not-lt (quotient 20000 1) (fin false m e) tt tt (not-true (lt (quotient 20000 1) (fin false m e)) h)) }
    go false = record { plain-is = tt; upper = lit≤ tt }

-- what a voice that keeps the rules has, as playing needs it
live-fits : (v : Voice) → keeps_rules v ≡ true → LiveFit v.set
unfolding counts_ok live_ok
live-fits v h =
    let s = v.set in
    let k = kept v h in
    let sizes = counts-are s.count s.m s.j s.k s.live_count k.counts in
    let l = both_true (every (λ i. ltb (get_or s.live i 0) s.j) s.live_count) (bands_ascend s.live s.live_count) k.live in
    record {
      most = sizes.4;
      inside = record { below = λ i a. let b : get_or s.live i 0 < s.j = ltb-true _ _ (every-at (λ i. ltb (get_or s.live i 0) s.j) s.live_count i l.0 a) in omega (arith, sizes) };
      ascend = l.1;
    }

pub voice-fits : (v : Voice) → keeps_rules v ≡ true → VoiceFits v.set v.lists v.state.phases
unfolding counts_ok entries_ok
voice-fits v h =
    let s = v.set in
    let k = kept v h in
    let sizes = counts-are s.count s.m s.j s.k s.live_count k.counts in
    let e = both_true (every (λ i. pitch_ok (get_or (pitches v) i nan)) s.count) (pitches_ascend (pitches v) s.count && every (λ i. stretch_ok (get_or (stretches v) i nan)) s.count) k.entries in
    let r = both_true (le (quotient 8000 1) s.sample_rate) (le s.sample_rate (quotient 192000 1)) k.rate in
    record {
      entries = record {
        sizes = (sizes.0, sizes.1, sizes.3);
        pitches-ok = e.0;
        stretches-ok = (both_true (pitches_ascend (pitches v) s.count) (every (λ i. stretch_ok (get_or (stretches v) i nan)) s.count) e.1).1;
        rate = rate-is s.sample_rate (shown _ r.0) (shown _ r.1);
      };
      live-bands = live-fits v h;
      phases-ok = k.phases;
    }

-- what a channel reads is as question 16 found it
default_ok : frequency_ok (quotient 220 1) ≡ true
unfolding round lt
default_ok = refl

-- an element of a part is one of the list, or what stands past the end
part-ok : (s : List Float) (a n i : ℕ) → ((j : ℕ) → j < length s → frequency_ok (get_or s j nan) ≡ true) → frequency_ok (frequency_of (take n (drop a s)) i) ≡ true
part-ok s a n i h =
    let d = quotient 220 1 in
    ⊎_elim (λ (q : n ≤ i). let m : length (take n (drop a s)) ≤ i = rw length-take (omega arith) in rw (get_or-eq_default (take n (drop a s)) d m) default_ok)
    (λ (q : i < n).
    ⊎_elim (λ (p : length s ≤ a + i). rw (get_or-take n (drop a s) i d q, get_or-drop a s i d, get_or-eq_default s d p) default_ok)
    (λ (p : a + i < length s). rw (get_or-take n (drop a s) i d q, get_or-drop a s i d, read-any s (a + i) d nan p) (h (a + i) p))
    (le-or-lt (length s) (a + i)))
    (le-or-lt n i)

-- LAW: every frequency that a channel reads is as question 16 asks
pub frequencies-fit : (k n ch : ℕ) (s : List Float) → frequencies_ok k s ≡ true → FrequenciesFit (part_of k s n ch)
unfolding part_of
frequencies-fit k n ch s h i = go (eqb k 0) h
  where
    go : (z : Bool) → z || every (λ i. frequency_ok (get_or s i nan)) (length s) ≡ true → frequency_ok (frequency_of (cond z [] (take n (drop ((ch % k) * n) s))) i) ≡ true
    go true e = default_ok
    go false e = part-ok s ((ch % k) * n) n i (λ j l. every-at (λ i. frequency_ok (get_or s i nan)) (length s) j e l)

-- the entries of a voice that is played, with one at least
pub entries-in : (s : Setting) (lists : List Float) → EntriesFit s lists → 1 ≤ s.count → EntriesIn (entries_at s lists)
entries-in s lists F h = record { some = h; most = F.sizes.0; pitches-ok = F.pitches-ok }

-- the frequency of a sample is one that can be played
pub within : (parts : Inputs) → FrequenciesFit parts.freq.now → (i : ℕ) (f0 : Float) → f0 ≡ cleaned (frequency_in parts i) → Within 20000 1 f0
within parts h i f0 e = subst (λ (z : Float). Within 20000 1 z) (sym e) (cleaned-within (frequency_in parts i) (h i))

pub sides-wide : (n : ℕ) (s : Sides) → n ≤ 16 → SidesIn n s → SidesIn 16 s
sides-wide n s h k = record { low = omega (arith, k.low); high = omega (arith, k.high) }

pub inverse-small : (s : Setting) (lists : List Float) → EntriesFit s lists → Within 1 4096 (inverse_of s.sample_rate)
inverse-small s lists F = inverse-within s.sample_rate F.rate
