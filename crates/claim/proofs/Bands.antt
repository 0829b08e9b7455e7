-- The live bands one after the other, and the same band by band. Assumes nothing.
use mathlib.Core.Path.{◌≡◌, refl, ap, sym, ◌∙◌}
use mathlib.Core.Logic.{⊎_elim}
use mathlib.Core.List.{List, [], ◌∷◌, ◌++◌, append_assoc, append-nil}
use mathlib.Core.Bool.{Bool, true, false, ◌||◌, cond}
use Prim.Native.Nat.{ℕ, zero, suc, ◌+◌, ◌≤◌, ◌<◌}
use native.Mathlib.Nat.{eq-or-lt_of_le, add-zero, zero-add}
use native.Mathlib.Numerals.{add-one}
use native.Mathlib.Omega.{arith}
use lib.ListN.{length, get_or, length-append}
use lib.Seq.{ext_get_or, get_or-append_seam}
use lib.Dec.{eqb}
use lib.Ieee.{Float}
use borrow.Author.Tests.{eq-eqb, ne_eqb}
use Rattle.table.specs.declared.desk.Kind.{Kind}
use Rattle.table.specs.Table.{PitchEntry}
use Rattle.table.specs.Desk.{band_count}
use Rattle.voice.specs.Lists.{up_to, steps}
use Rattle.voice.specs.Voice.{band_at, memory_at, with_memory}
use Rattle.filters.specs.Biquad.{cleared, tick_of}
use Rattle.filters.specs.Band.{zero_coeffs}
use Rattle.player.specs.Bands.{ticking_set}
use Rattle.making.specs.Making.{is_live, live_bands, fresh_voice}
use Rattle.filters.specs.declared.biquad.BiquadCoeffs.{BiquadCoeffs}
use Rattle.filters.specs.declared.biquad.BiquadState.{BiquadState}
use Rattle.voice.proofs.Loops.{length-up_to, up_to-at}
use Rattle.voice.proofs.MemoryLaws.{length-with, memory-written, memory_kept}
use Rattle.claim.specs.Machine.{is_in, tick}

-- the memories after live band number l has ticked, and band b's memory after it was its turn
abbrev live_tick : List ℕ → List Float → Float → ℕ → List Float → List Float
live_tick live lists x l ms = with_memory ms (get_or live l 0) (tick_of (memory_at ms (get_or live l 0)) x (band_at lists (get_or live l 0))).state

abbrev pub band_tick : Bool → List Float → Float → List Float → ℕ → BiquadState
band_tick live lists x ms b = cond live (tick_of (memory_at ms b) x (band_at lists b)).state (memory_at ms b)

module _ (k : Kind) (es : List PitchEntry) where
  -- ms with the turn of the first b bands over
  pub record BandsTurned (lists : List Float) (x : Float) (ms : List Float) (b : ℕ) (ns : List Float) : Type 0 where
    pub size : length ns ≡ 32
    pub below : (i : ℕ) → i < b → memory_at ns i ≡ band_tick (is_live k es i) lists x ms i
    pub above : (i : ℕ) → b ≤ i → memory_at ns i ≡ memory_at ms i

  module _ (live : List ℕ) (lists : List Float) (x : Float) (ms : List Float) where
    -- band b is live, and its number is n
    tick-live : (b n : ℕ) (ns : List Float) → b < 16 → is_live k es b ≡ true → get_or live n 0 ≡ b → BandsTurned lists x ms b ns → BandsTurned lists x ms (suc b) (live_tick live lists x n ns)
    tick-live b n ns h t e T =
        let new = (tick_of (memory_at ns b) x (band_at lists b)).state in
        let own_turn : memory_at (with_memory ns b new) b ≡ band_tick (is_live k es b) lists x ms b =
        memory-written ns b new (omega (arith, T.size)) ∙ rw (t, T.above b (omega arith)) in
        rw e
        (record {
          size = length-with ns b new ∙ T.size;
          below = λ i l.
              ⊎_elim (λ (q : i ≡ b). rw q own_turn) (λ (q : i < b). memory_kept ns i b new (λ (z : i ≡ b). omega arith) ∙ T.below i q)
              (eq-or-lt_of_le (omega arith));
          above = λ i l. memory_kept ns i b new (λ (z : i ≡ b). omega arith) ∙ T.above i (omega arith);
        })

    -- band b is not
    tick-still : (b : ℕ) (ns : List Float) → is_live k es b ≡ false → BandsTurned lists x ms b ns → BandsTurned lists x ms (suc b) ns
    tick-still b ns t T = record {
      size = T.size;
      below = λ i l. ⊎_elim (λ (q : i ≡ b). rw (q, t) (T.above b (omega arith))) (λ (q : i < b). T.below i q) (eq-or-lt_of_le (omega arith));
      above = λ i l. T.above i (omega arith);
    }

    by-test : (b : ℕ) (rest : List ℕ) (u : Bool) → b < 16 → is_live k es b ≡ u → live ≡ (live_bands k es b ++ cond u (b ∷ []) []) ++ rest
        → ((rest : List ℕ) → live ≡ live_bands k es b ++ rest → BandsTurned lists x ms b (steps (live_tick live lists x) ms (length (live_bands k es b))))
        → BandsTurned lists x ms (suc b) (steps (live_tick live lists x) ms (length (live_bands k es b ++ cond u (b ∷ []) [])))
    unfolding steps
    by-test b rest true l t e h =
        let d : live ≡ live_bands k es b ++ (b ∷ rest) = e ∙ append_assoc (live_bands k es b) (b ∷ []) rest in
        rw (length-append, add-one)
        (tick-live b (length (live_bands k es b)) _ l t (ap (λ l. get_or l (length (live_bands k es b)) 0) d ∙ get_or-append_seam (live_bands k es b) b rest 0) (h (b ∷ rest) d))
    by-test b rest false l t e h = rw append-nil (tick-still b _ t (h rest (rw append-nil at e)))

    -- LAW: the live bands of the first b, one after the other, are the first b bands, each where it is live
    pub live-bands : length ms ≡ 32 → (b : ℕ) (rest : List ℕ) → b ≤ 16 → live ≡ live_bands k es b ++ rest
        → BandsTurned lists x ms b (steps (live_tick live lists x) ms (length (live_bands k es b)))
    unfolding live_bands steps
    live-bands n zero rest l e = record { size = n; below = λ i z. absurd (omega arith); above = λ i z. refl }
    live-bands n (suc b) rest l e = by-test b rest (is_live k es b) l refl e (λ r d. live-bands n b r (omega arith) d)

  -- ---- which numbers are in the list of live bands
  or_assoc : (a b c : Bool) → (a || b) || c ≡ a || (b || c)
  or_assoc true b c = refl
  or_assoc false b c = refl

  or-false : (a : Bool) → a || false ≡ a
  or-false true = refl
  or-false false = refl

  is_in-append : (n : ℕ) (a b : List ℕ) → is_in n (a ++ b) ≡ is_in n a || is_in n b
  unfolding is_in
  is_in-append n [] b = refl
  is_in-append n (x ∷ a) b = rw (is_in-append n a b) (sym (or_assoc (eqb n x) (is_in n a) (is_in n b)))

  -- one that is put at the end or not, and another number
  is_in-other : (n c : ℕ) (u : Bool) → (n ≡ c → ⊥) → is_in n (cond u (c ∷ []) []) ≡ false
  unfolding is_in
  is_in-other n c true h = rw (ne_eqb n c h)
  is_in-other n c false h = refl

  is_in-this : (n : ℕ) (u : Bool) → is_in n (cond u (n ∷ []) []) ≡ u
  unfolding is_in
  is_in-this n true = rw (eq-eqb n n refl)
  is_in-this n false = refl

  is_in-none : (n b : ℕ) → b ≤ n → is_in n (live_bands k es b) ≡ false
  unfolding live_bands is_in
  is_in-none n zero h = refl
  is_in-none n (suc b) h =
      is_in-append n (live_bands k es b) _
      ∙ rw (is_in-none n b (omega arith)) (is_in-other n b (is_live k es b) (λ e. omega arith))

  -- LAW: a band below b is in the list of the live ones of the first b where it is live
  pub is_in-live : (n b : ℕ) → n < b → is_in n (live_bands k es b) ≡ is_live k es n
  unfolding live_bands
  is_in-live n zero h = absurd (omega arith)
  is_in-live n (suc b) h =
      is_in-append n (live_bands k es b) _
      ∙ ⊎_elim (λ (e : n ≡ b). rw (← e, is_in-none n n (omega arith)) (is_in-this n (is_live k es n)))
      (λ (l : n < b). rw (is_in-live n b l, is_in-other n b (is_live k es b) (λ e. omega arith)) (or-false (is_live k es n)))
      (eq-or-lt_of_le (omega arith))

-- ---- the machine's ticks, place by place
length-tick : (b : ℕ) (x : Float) (live : List ℕ) (cs : List BiquadCoeffs) (ss : List BiquadState) → length (tick b x live cs ss) ≡ length ss
unfolding tick
length-tick b x live [] ss = refl
length-tick b x live (c ∷ cs) [] = refl
length-tick b x live (c ∷ cs) (s ∷ ss) = ap suc (length-tick (b + 1) x live cs ss)

tick-at : (b : ℕ) (x : Float) (live : List ℕ) (cs : List BiquadCoeffs) (ss : List BiquadState) (i : ℕ) → i < length cs → i < length ss
    → get_or (tick b x live cs ss) i cleared ≡ cond (is_in (b + i) live) (tick_of (get_or ss i cleared) x (get_or cs i zero_coeffs)).state (get_or ss i cleared)
unfolding tick
tick-at b x live [] ss i h l = absurd (omega arith)
tick-at b x live (c ∷ cs) [] i h l = absurd (omega arith)
tick-at b x live (c ∷ cs) (s ∷ ss) zero h l = rw add-zero
tick-at b x live (c ∷ cs) (s ∷ ss) (suc i) h l =
    let e : b + suc i ≡ b + 1 + i = omega arith in
    rw e (tick-at (b + 1) x live cs ss i (omega arith) (omega arith))

-- LAW: n memories in which each band had its turn are the machine's
pub tick_is : (x : Float) (live : List ℕ) (cs : List BiquadCoeffs) (f g : ℕ → BiquadState) (n : ℕ) → length cs ≡ n
    → ((i : ℕ) → i < n → g i ≡ cond (is_in i live) (tick_of (f i) x (get_or cs i zero_coeffs)).state (f i)) → up_to g n ≡ tick 0 x live cs (up_to f n)
tick_is x live cs f g n m h =
    let p = length-up_to g n in
    let q = length-up_to f n in
    ext_get_or cleared (up_to g n) (tick 0 x live cs (up_to f n)) (p ∙ sym q ∙ sym (length-tick 0 x live cs (up_to f n)))
    (λ i l.
    let w : i < n = omega arith in
    up_to-at g n i cleared w
    ∙ h i w
    ∙ sym (rw (tick-at 0 x live cs (up_to f n) i (omega arith) (omega arith), up_to-at f n i cleared w, zero-add i)))

-- ---- of a single voice every band is live
single-bands : (c : ℕ) (es : List PitchEntry) (j : ℕ) → live_bands (Kind.Single c) es j ≡ up_to (λ b. b) j
unfolding live_bands up_to
single-bands c es zero = refl
single-bands c es (suc j) = ap (λ l. l ++ (j ∷ [])) (single-bands c es j)

-- LAW: so the numbers of a voice that was made are those that it is played by
pub ticking-made : (k : Kind) (es : List PitchEntry) (rate : Float) (centres : List Float)
    → ticking_set (fresh_voice k es rate centres).set ≡ (fresh_voice k es rate centres).set
unfolding fresh_voice
ticking-made (Kind.Single c) es rate centres = rw (single-bands c es (band_count (Kind.Single c) es), length-up_to (λ (b : ℕ). b) (band_count (Kind.Single c) es))
ticking-made Kind.Blend es rate centres = refl
