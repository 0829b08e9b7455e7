-- The noise of a sample over columns of live bands is that of the definitions, and the columns hold the memories from sample to sample.
use mathlib.Core.Path.{◌≡◌, refl, sym, ap, subst, ◌∙◌}
use mathlib.Core.Logic.{⊎_elim}
use mathlib.Core.List.{List}
use mathlib.Core.Bool.{Bool, true, false, cond}
use Prim.Native.Nat.{ℕ, zero, suc, ◌+◌, ◌-◌, ◌*◌, ◌<◌}
use native.Mathlib.Numerals.{add-one}
use native.Mathlib.Nat.{eq-or-lt_of_le}
use native.Mathlib.Omega.{arith}
use lib.ListN.{length, get_or}
use lib.Dec.{T, eqb, ltb, eqb→eq}
use lib.Ieee.{Float, nan}
use borrow.Author.Tests.{eq-eqb, ltb-true}
use Rattle.voice.specs.Lists.{steps}
use Rattle.filters.specs.Biquad.{tick_of}
use Rattle.player.specs.Bracket.{value_between}
use Rattle.voice.specs.Voice.{noise_gains, compensations, band_at, memory_at, with_memory}
use Rattle.player.specs.Sound.{sides_at, noise_row, noise_in, tick_at, noise_term, noise_sum, moved_memories}
use Rattle.player.specs.inner.Passes.{LiveFit}
use Rattle.player.specs.inner.Columns.{state_of_columns, coeffs_of_rows, Memories, Coeffs, Ticked, scattered, Filled, FilledRows}
use Rattle.player.specs.inner.Terms.{noise_added}
use Rattle.filters.specs.declared.biquad.BiquadState.{BiquadState}
use Rattle.filters.specs.declared.biquad.Tick.{Tick}
use Rattle.player.specs.inner.Tuning.{constants_at}
use Rattle.player.specs.declared.constants.Constants.{Constants}
use Rattle.player.specs.declared.noise.bands.BandColumns.{BandColumns}
use Rattle.player.specs.declared.tuning.NoiseTuning.{NoiseTuning}
use Rattle.filters.specs.declared.rng.Rng.{Rng}
use Rattle.voice.specs.declared.voice.Voice.{Voice}
use Rattle.voice.proofs.Loops.{every-at}
use Rattle.voice.proofs.MemoryLaws.{length-with, memory-written, memory_kept, memories-same}
use Rattle.player.proofs.ColumnLaws.{steps-as}
use Rattle.player.proofs.TermLaws.{noise-by-one, band-coeff-as}

-- ---- the coefficients of the live bands
-- row q holds coefficient q of each
pub rows-are-coeffs : (cs lists : List Float) (live : List ℕ) (n : ℕ) → FilledRows cs (λ q l. get_or lists (64 + get_or live l 0 * 5 + q) nan) 5 n → Coeffs cs lists live n
rows-are-coeffs cs lists live n R = record { at = rows }
  where
    rows : (l : ℕ) → l < n → band_at lists (get_or live l 0) ≡ coeffs_of_rows cs l
    rows l h =
        let e : l ≡ 0 * 32 + l = omega arith in
        let z : 64 + get_or live l 0 * 5 + 0 ≡ 64 + get_or live l 0 * 5 = omega arith in
        let r : get_or cs l nan ≡ get_or lists (64 + get_or live l 0 * 5) nan = ap (λ (i : ℕ). get_or cs i nan) e ∙ R.at 0 l (omega arith) h ∙ ap (λ (i : ℕ). get_or lists i nan) z in
        rw (r, R.at 1 l (omega arith) h, R.at 2 l (omega arith) h, R.at 3 l (omega arith) h, R.at 4 l (omega arith) h)

-- ---- memories that are written at n bands, each by what stands there
module _ (at : ℕ → ℕ) (f : ℕ → BiquadState → BiquadState) where
  abbrev written : List Float → ℕ → List Float
  written ms n = steps (λ i ms. with_memory ms (at i) (f i (memory_at ms (at i)))) ms n

  length-written : (ms : List Float) (n : ℕ) → length (written ms n) ≡ length ms
  unfolding steps
  length-written ms zero = refl
  length-written ms (suc n) = length-with (written ms n) (at n) (f n (memory_at (written ms n) (at n))) ∙ length-written ms n

  off-written : (ms : List Float) (n b : ℕ) → ((i : ℕ) → i < n → b ≡ at i → ⊥) → memory_at (written ms n) b ≡ memory_at ms b
  unfolding steps
  off-written ms zero b h = refl
  off-written ms (suc n) b h = memory_kept (written ms n) b (at n) (f n (memory_at (written ms n) (at n))) (h n (omega arith)) ∙ off-written ms n b (λ i k. h i (omega arith))

  -- no band is written twice
  at-written : (ms : List Float) (n i : ℕ) → i < n → ((i k : ℕ) → i < k → k < n → at i < at k) → ((i : ℕ) → i < n → at i * 2 + 1 < length ms)
      → memory_at (written ms n) (at i) ≡ f i (memory_at ms (at i))
  unfolding steps
  at-written ms zero i h rise below = absurd (omega arith)
  at-written ms (suc n) i h rise below =
      let last : memory_at (written ms (suc n)) (at n) ≡ f n (memory_at ms (at n)) =
      let long = length-written ms n in
      let inside = below n (omega arith) in
      memory-written (written ms n) (at n) (f n (memory_at (written ms n) (at n))) (omega arith)
      ∙ ap (f n) (off-written ms n (at n) (λ j k e. let r = rise j n k (omega arith) in omega arith)) in
      ⊎_elim (λ (e : i ≡ n). rw e last)
      (λ (q : i < n).
      memory_kept (written ms n) (at i) (at n) (f n (memory_at (written ms n) (at n))) (λ e. let r = rise i n q (omega arith) in omega arith)
      ∙ at-written ms n i q (λ j k a b. rise j k a (omega arith)) (λ j k. below j (omega arith)))
      (eq-or-lt_of_le (omega arith))

-- a place is one of the first n, or none of them
data Among (at : ℕ → ℕ) (b n : ℕ) : Type 0 where
  at_one : (i : ℕ) → i < n → b ≡ at i → Among at b n
  off-all : ((i : ℕ) → i < n → b ≡ at i → ⊥) → Among at b n

among : (at : ℕ → ℕ) (b n : ℕ) → Among at b n
among at b zero = off-all (λ i h e. omega arith)
among at b (suc n) = more (eqb b (at n)) refl (among at b n)
  where
    more : (t : Bool) → eqb b (at n) ≡ t → Among at b n → Among at b (suc n)
    more true e p = at_one n (omega arith) (eqb→eq b (at n) (subst T (sym e) tt))
    more false e (at_one i h q) = at_one i (omega arith) q
    more false e (off-all f) =
        off-all (λ i h q.
        ⊎_elim (λ (k : i ≡ n). let s = eq-eqb b (at n) (q ∙ ap at k) in let z : ◌≡◌ {A = ℕ} 0 1 = cc in absurd (omega arith)) (λ (k : i < n). f i k q) (eq-or-lt_of_le (omega arith)))

-- ---- the live bands of a voice that keeps the rules
-- off the live bands two lists of memories agree
pub record AgreeOff (ms ns : List Float) (live : List ℕ) (n : ℕ) : Type 0 where
  pub at : (b : ℕ) → ((l : ℕ) → l < n → b ≡ get_or live l 0 → ⊥) → memory_at ms b ≡ memory_at ns b

pub agree_same : (ms : List Float) (live : List ℕ) (n : ℕ) → AgreeOff ms ms live n
agree_same ms live n = record { at = λ b h. refl }

module _ (v : Voice) (K : LiveFit v.set) where
  abbrev band : ℕ → ℕ
  band l = get_or v.set.live l 0

  -- they ascend, so that none comes twice
  pub rising : (i l : ℕ) → i < l → l < v.set.live_count → band i < band l
  rising i zero h k = absurd (omega arith)
  rising i (suc l) h k =
      let t : band l < band (l + 1) = ltb-true _ _ (every-at (λ i. ltb (get_or v.set.live i 0) (get_or v.set.live (i + 1) 0)) (v.set.live_count - 1) l K.ascend (omega arith)) in
      let s : band l < band (suc l) = rw (add-one l) at t in
      ⊎_elim (λ (e : i ≡ l). rw e s) (λ (q : i < l). let r = rising i l q (omega arith) in omega arith) (eq-or-lt_of_le (omega arith))

  -- the places of a live band
  inside : (ms : List Float) → length ms ≡ 32 → (l : ℕ) → l < v.set.live_count → band l * 2 + 1 < length ms
  inside ms h l k = let b = K.inside.below l k in omega arith

  -- what a live band's memories become in a sample x
  abbrev move_band : Float → ℕ → BiquadState → BiquadState
  move_band x l m = (tick_of m x (band_at v.lists (band l))).state

  -- LAW: a sample keeps the number of memories
  pub length-memories : (r : Rng) (ms : List Float) → length (moved_memories v r ms) ≡ length ms
  unfolding moved_memories
  length-memories r ms = length-written band (move_band (noise_in r)) ms v.set.live_count

  -- LAW: and changes none off the live bands
  pub memories-off : (r : Rng) (ms : List Float) (b : ℕ) → ((l : ℕ) → l < v.set.live_count → b ≡ get_or v.set.live l 0 → ⊥)
      → memory_at (moved_memories v r ms) b ≡ memory_at ms b
  unfolding moved_memories
  memories-off r ms b h = off-written band (move_band (noise_in r)) ms v.set.live_count b h

  pub agree-moved : (r : Rng) (ms ns : List Float) → AgreeOff ms ns v.set.live v.set.live_count → AgreeOff (moved_memories v r ms) ns v.set.live v.set.live_count
  agree-moved r ms ns A = record { at = λ b h. memories-off r ms b h ∙ A.at b h }

  memories-at : (r : Rng) (ms : List Float) (l : ℕ) → length ms ≡ 32 → l < v.set.live_count → memory_at (moved_memories v r ms) (band l) ≡ move_band (noise_in r) l (memory_at ms (band l))
  unfolding moved_memories
  memories-at r ms l h k = at-written band (move_band (noise_in r)) ms v.set.live_count l k rising (inside ms h)

  -- LAW: what `scatter_memories` makes of the memories at first is the memories that the columns hold
  pub scattered-is : (z1 z2 ms ns : List Float) → length ms ≡ 32 → length ns ≡ 32 → AgreeOff ms ns v.set.live v.set.live_count → Memories z1 z2 ms v.set.live v.set.live_count
      → scattered v.set.live z1 z2 ns v.set.live_count ≡ ms
  scattered-is z1 z2 ms ns h k A M =
      let long = length-written band (λ l m. state_of_columns z1 z2 l) ns v.set.live_count in
      memories-same 16 _ ms (long ∙ k) h (λ b q. same b (among band b v.set.live_count))
    where
      same : (b : ℕ) → Among band b v.set.live_count → memory_at (written band (λ l m. state_of_columns z1 z2 l) ns v.set.live_count) b ≡ memory_at ms b
      same b (at_one l a e) =
          let w : memory_at (written band (λ l m. state_of_columns z1 z2 l) ns v.set.live_count) (band l) ≡ memory_at ms (band l) =
          at-written band (λ l m. state_of_columns z1 z2 l) ns v.set.live_count l a rising (inside ns k) ∙ sym (M.at l a) in
          rw e w
      same b (off-all f) = off-written band (λ l m. state_of_columns z1 z2 l) ns v.set.live_count b f ∙ sym (A.at b f)

  -- ---- the columns of a sample
  module _ (r : Rng) (ms : List Float) (x : Float) (ys w1 w2 z1 z2 cs : List Float) (ex : x ≡ noise_in r) (M : Memories z1 z2 ms v.set.live v.set.live_count) (C : Coeffs cs v.lists v.set.live v.set.live_count)
      (ticked : Ticked ys w1 w2 z1 z2 cs x v.set.live_count) where
    ticked-at : (l : ℕ) → l < v.set.live_count → record { state = state_of_columns w1 w2 l; y = get_or ys l nan } ≡ tick_at v (noise_in r) ms (band l)
    ticked-at l h = ticked.at l h ∙ rw (M.at l h, C.at l h, ex)

    -- LAW: after `tick_bands` the columns hold the memories after the sample
    pub memories-moved : length ms ≡ 32 → Memories w1 w2 (moved_memories v r ms) v.set.live v.set.live_count
    memories-moved h = record { at = λ l k. memories-at r ms l h k ∙ sym (ap (λ (t : Tick). t.state) (ticked-at l k)) }

    -- and ys what each live band gives
    pub filtered-at : (l : ℕ) → l < v.set.live_count → get_or ys l nan ≡ (tick_at v (noise_in r) ms (band l)).y
    filtered-at l h = ap (λ (t : Tick). t.y) (ticked-at l h)

  -- ---- the sum of a sample, where the columns are those of f0 and g
  module _ (r : Rng) (ms : List Float) (f0 : Float) (g : List Float) (t : NoiseTuning) (bands : BandColumns) (eg : t.noise_gain ≡ value_between (noise_gains v) (sides_at v f0))
      (R : FilledRows t.rows (λ q l. noise_row v.noise (sides_at v f0) q (band l)) (cond (eqb v.set.blend 0) 1 v.set.k) v.set.live_count)
      (M : Filled bands.makeup (λ l. get_or (compensations v) (band l) nan) v.set.live_count)
      (Y : (l : ℕ) → l < v.set.live_count → get_or bands.ys l nan ≡ (tick_at v (noise_in r) ms (band l)).y) where
    abbrev x : Constants
    x = constants_at v.set

    term_is : (l : ℕ) → l < v.set.live_count → (y : Float) → noise_added x t g bands l y ≡ noise_term v f0 g (band l) y (tick_at v (noise_in r) ms (band l)).y
    term_is l h y =
        rw (band-coeff-as v.set.blend v.set.k (λ q. get_or t.rows (q * 32 + l) nan) (λ q. noise_row v.noise (sides_at v f0) q (band l)) g (λ q a. R.at q l a h), eg, M.at l h, Y l h)
        (noise-by-one v f0 g (band l) y (tick_at v (noise_in r) ms (band l)).y)

    -- LAW: what `noise_sum` ensures is the sample
    pub sum-is-sample : (y z : Float) → z ≡ steps (λ l y. noise_added x t g bands l y) y v.set.live_count → z ≡ noise_sum v f0 g r ms y
    unfolding noise_sum
    sum-is-sample y z e = e ∙ steps-as _ _ y v.set.live_count term_is
