-- A fresh voice keeps the voice rules: question 13 is answered yes of every voice that a making gives. Assumes nothing.
use Prim.Native.Nat.{ℕ, zero, suc, ◌+◌, ◌-◌, ◌*◌, ◌≤◌, ◌<◌}
use mathlib.Core.Path.{◌≡◌, refl, ap, ◌∙◌}
use mathlib.Core.Logic.{◌⊎◌, inl, inr}
use mathlib.Core.List.{List, [], ◌∷◌, ◌++◌, map, append-nil, append_assoc}
use mathlib.Core.Bool.{Bool, true, false, ◌&&◌, cond}
use native.Mathlib.Omega.{arith}
use native.Mathlib.Nat.{eq-or-lt_of_le, le_of_suc-le-suc}
use lib.ListN.{length, get_or, replicate, length-append, length-map, get_or-append, get_or-replicate}
use lib.Seq.{get_or-append_seam}
use lib.Dec.{T, leb, ltb}
use lib.Ieee.{Float, nan, inf, fin, round, lt, le, eq}
use lib.Ieee.Scale.{finite}
use borrow.Author.Tests.{leb-true, le-leb, lt-ltb}
use lib.Ieee.Bits.{is_true}
use Rattle.float.proofs.Finite.{shown}
use Rattle.float.proofs.Compare.{finite-not-lt, lt-le}
use Rattle.table.specs.declared.desk.Kind.{Kind}
use Rattle.table.specs.Table.{PitchEntry, m_partials, has_channel, metadata_value}
use Rattle.table.specs.Decode.{decode, entries_of}
use Rattle.table.specs.Desk.{band_count}
use Rattle.float.specs.F32.{quotient}
use Rattle.voice.specs.Lists.{join_to, every, padded}
use Rattle.voice.specs.Voice.{pitch_ok, stretch_ok, phase_ok, pitches_ascend, bands_ascend, counts_ok, entries_ok, live_ok, centres_finite, phases_ok, rules_of, keeps_rules, list_at, pitches, stretches, band_at}
use Rattle.filters.specs.Band.{zero_coeffs, band_from}
use Rattle.voice.specs.Bands.{coeff_floats, init_floats}
use Rattle.voice.proofs.PutLaws.{length-mapped, length-padded, get_d_past, list-first, list-later, join_to-at}
use Rattle.voice.proofs.InitLaws.{length-init, centres-at}
use Rattle.making.specs.Making.{f32, all, sizes_ok, values_ok, keeps, insert_by_pitch, gathered, voice_entries, channel_count, partial_coeff, is_nonzero, present_finite, mainlobe_key, noise_gain_key, partial_reach, reach_in, most, phases_for, phase_count, is_live, live_bands, gain_of, fresh_lists, fresh_voice, Making, make_question}
use Rattle.voice.proofs.Loops.{both_true, length-join_to, at_every, get_or-padded}
use Rattle.making.proofs.ListLaws.{front, front_long, lists-split}
use Rattle.making.proofs.SortLaws.{all_insert, all-gathered, bands-few}
use Rattle.making.proofs.MakingLaws.{Accepted, live-short}
use Rattle.making.proofs.AcceptedLaws.{make-accepted}

-- ---- tests of all, as a list's and as a count's
all-imp : {A : Type 0} (f g : A → Bool) (l : List A) → ((a : A) → f a ≡ true → g a ≡ true) → all f l ≡ true → all g l ≡ true
unfolding all
all-imp f g [] i h = refl
all-imp f g (a ∷ l) i h = let p = both_true (f a) (all f l) h in rw (i a p.0) (all-imp f g l i p.1)

all_get_d : {A : Type 0} (test : Float → Bool) (g : A → Float) (l : List A) (i : ℕ) → all (λ e. test (g e)) l ≡ true → i < length l → test (get_or (map g l) i nan) ≡ true
unfolding all
all_get_d test g [] i h k = absurd (omega arith)
all_get_d test g (a ∷ l) zero h k = (both_true (test (g a)) (all (λ e. test (g e)) l) h).0
all_get_d test g (a ∷ l) (suc i) h k = all_get_d test g l i (both_true (test (g a)) (all (λ e. test (g e)) l) h).1 (omega arith)

padded-all : {A : Type 0} (test : Float → Bool) (g : A → Float) (z : Float) (n : ℕ) (l : List A) → all (λ e. test (g e)) l ≡ true
    → every (λ i. test (get_or (padded n z (map g l)) i nan)) (length l) ≡ true
padded-all test g z n l h = at_every _ (length l) λ i k.
    ap test (get_or-padded n z nan (map g l) i (rw (length-map l g) k)) ∙ all_get_d test g l i h k

all-at : (test : Float → Bool) (l : List Float) (i : ℕ) → all test l ≡ true → i < length l → test (get_or l i nan) ≡ true
unfolding all
all-at test [] i h k = absurd (omega arith)
all-at test (x ∷ l) zero h k = (both_true (test x) (all test l) h).0
all-at test (x ∷ l) (suc i) h k = all-at test l i (both_true (test x) (all test l) h).1 (omega arith)

-- ---- sorted entries ascend
abbrev pitch : PitchEntry → Float
pitch e = f32 e.f0_hz

-- each pitch is at most the next
unfoldable ascends : List PitchEntry → Bool
ascends [] = true
ascends (x ∷ []) = true
ascends (x ∷ y ∷ l) = le (pitch x) (pitch y) && ascends (y ∷ l)

pitch-finite : (f : Float) → pitch_ok f ≡ true → T (finite f)
unfolding round lt le eq
pitch-finite nan h = let z : ◌≡◌ {A = ℕ} 0 1 = cc in absurd (omega arith)
pitch-finite (inf true) h = let z : ◌≡◌ {A = ℕ} 0 1 = cc in absurd (omega arith)
pitch-finite (inf false) h = let z : ◌≡◌ {A = ℕ} 0 1 = cc in absurd (omega arith)
pitch-finite (fin s m e) h = tt

-- an entry of at most the first pitch goes before
ascends-cons : (x : PitchEntry) (l : List PitchEntry) → ascends l ≡ true → ((y : PitchEntry) (m : List PitchEntry) → l ≡ y ∷ m → le (pitch x) (pitch y) ≡ true) → ascends (x ∷ l) ≡ true
unfolding ascends
ascends-cons x [] h k = refl
ascends-cons x (y ∷ m) h k = rw (k y m refl) h

ascends-tail : (x : PitchEntry) (l : List PitchEntry) → ascends (x ∷ l) ≡ true → ascends l ≡ true
unfolding ascends
ascends-tail x [] h = refl
ascends-tail x (y ∷ m) h = (both_true (le (pitch x) (pitch y)) (ascends (y ∷ m)) h).1

ascends-head : (x y : PitchEntry) (m : List PitchEntry) → ascends (x ∷ y ∷ m) ≡ true → le (pitch x) (pitch y) ≡ true
unfolding ascends
ascends-head x y m h = (both_true (le (pitch x) (pitch y)) (ascends (y ∷ m)) h).0

-- the first of the entries after an insertion: the new one or the old first
first-is : (e x : PitchEntry) (l : List PitchEntry) → ascends (x ∷ l) ≡ true → le (pitch x) (pitch e) ≡ true
    → (y : PitchEntry) (m : List PitchEntry) → insert_by_pitch e l ≡ y ∷ m → le (pitch x) (pitch y) ≡ true
unfolding insert_by_pitch
first-is e x [] h k y m q = let p : e ≡ y = cc in rw (← p) k
first-is e x (z ∷ l) h k y m q = go (lt (pitch e) (pitch z)) q
  where
    go : (b : Bool) → cond b (e ∷ z ∷ l) (z ∷ insert_by_pitch e l) ≡ y ∷ m → le (pitch x) (pitch y) ≡ true
    go true p = let w : e ≡ y = cc in rw (← w) k
    go false p = let w : z ≡ y = cc in rw (← w) (ascends-head x z l h)

insert-ascends : (e : PitchEntry) (l : List PitchEntry) → pitch_ok (pitch e) ≡ true → all (λ x. pitch_ok (pitch x)) l ≡ true → ascends l ≡ true → ascends (insert_by_pitch e l) ≡ true
unfolding insert_by_pitch all
insert-ascends e [] p a h = ascends-cons e [] h (λ y m q. let z : ◌≡◌ {A = ℕ} 0 1 = cc in absurd (omega arith))
insert-ascends e (x ∷ l) p a h =
    let w = both_true (pitch_ok (pitch x)) (all (λ x. pitch_ok (pitch x)) l) a in
    go (lt (pitch e) (pitch x)) refl w.0 (insert-ascends e l p w.1 (ascends-tail x l h))
  where
    go : (b : Bool) → lt (pitch e) (pitch x) ≡ b → pitch_ok (pitch x) ≡ true → ascends (insert_by_pitch e l) ≡ true → ascends (cond b (e ∷ x ∷ l) (x ∷ insert_by_pitch e l)) ≡ true
    go true q o ih = ascends-cons e (x ∷ l) h (λ y m r.
        let s : x ≡ y = cc in
        rw (← s) (is_true (le (pitch e) (pitch x)) (lt-le (pitch e) (pitch x) (shown (lt (pitch e) (pitch x)) q))))
    go false q o ih = ascends-cons x (insert_by_pitch e l) ih (first-is e x l h (is_true (le (pitch x) (pitch e)) (finite-not-lt (pitch e) (pitch x) (pitch-finite (pitch e) p) (pitch-finite (pitch x) o) q)))

gathered-ascends : (k : Kind) (before es : List PitchEntry) → all (λ x. pitch_ok (pitch x)) before ≡ true → all (λ x. pitch_ok (pitch x)) es ≡ true → ascends before ≡ true
    → (all (λ x. pitch_ok (pitch x)) (gathered k before es) ≡ true) × (ascends (gathered k before es) ≡ true)
unfolding gathered all insert_by_pitch
gathered-ascends k before [] p a h = (p, h)
gathered-ascends k before (e ∷ es) p a h =
    let w = both_true (pitch_ok (pitch e)) (all (λ x. pitch_ok (pitch x)) es) a in
    go (keeps k e) w.0 (λ b q r. gathered-ascends k b es q w.1 r)
  where
    go : (b : Bool) → pitch_ok (pitch e) ≡ true
        → ((l : List PitchEntry) → all (λ x. pitch_ok (pitch x)) l ≡ true → ascends l ≡ true → (all (λ x. pitch_ok (pitch x)) (gathered k l es) ≡ true) × (ascends (gathered k l es) ≡ true))
        → (all (λ x. pitch_ok (pitch x)) (gathered k (cond b (insert_by_pitch e before) before) es) ≡ true) × (ascends (gathered k (cond b (insert_by_pitch e before) before) es) ≡ true)
    go true o ih = ih (insert_by_pitch e before) (all_insert (λ x. pitch_ok (pitch x)) e before o p) (insert-ascends e before o p h)
    go false o ih = ih before p h

-- one place and the next
ascends-at : (l : List PitchEntry) (i : ℕ) → ascends l ≡ true → i + 1 < length l → le (get_or (map pitch l) i nan) (get_or (map pitch l) (i + 1) nan) ≡ true
unfolding ascends
ascends-at [] i h k = absurd (omega arith)
ascends-at (x ∷ []) i h k = absurd (omega arith)
ascends-at (x ∷ y ∷ l) zero h k = (both_true (le (pitch x) (pitch y)) (ascends (y ∷ l)) h).0
ascends-at (x ∷ y ∷ l) (suc i) h k =
    let q : suc i + 1 ≡ suc (i + 1) = omega arith in
    rw q (ascends-at (y ∷ l) i (both_true (le (pitch x) (pitch y)) (ascends (y ∷ l)) h).1 (omega arith))

pitches-ascend : (l : List PitchEntry) → ascends l ≡ true → pitches_ascend (padded 16 (quotient 0 1) (map pitch l)) (length l) ≡ true
pitches-ascend l h = at_every _ (length l - 1) λ i k.
    let n = length-map l pitch in
    rw (get_or-padded 16 (quotient 0 1) nan (map pitch l) i (omega arith), get_or-padded 16 (quotient 0 1) nan (map pitch l) (i + 1) (omega arith)) (ascends-at l i h (omega arith))

-- ---- counts
insert-length : (e : PitchEntry) (l : List PitchEntry) → length (insert_by_pitch e l) ≡ suc (length l)
unfolding insert_by_pitch
insert-length e [] = refl
insert-length e (x ∷ l) = go (lt (pitch e) (pitch x)) (insert-length e l)
  where
    go : (b : Bool) → length (insert_by_pitch e l) ≡ suc (length l) → length (cond b (e ∷ x ∷ l) (x ∷ insert_by_pitch e l)) ≡ suc (suc (length l))
    go true q = refl
    go false q = ap suc q

gathered-length : (k : Kind) (before es : List PitchEntry) → length (gathered k before es) ≤ length before + length es
unfolding gathered
gathered-length k before [] = omega arith
gathered-length k before (e ∷ es) = go (keeps k e) (gathered-length k (insert_by_pitch e before) es) (gathered-length k before es)
  where
    go : (b : Bool) → length (gathered k (insert_by_pitch e before) es) ≤ length (insert_by_pitch e before) + length es → length (gathered k before es) ≤ length before + length es
        → length (gathered k (cond b (insert_by_pitch e before) before) es) ≤ length before + suc (length es)
    go true p q = omega (arith, insert-length e before)
    go false p q = omega arith

channels-few : (k : Kind) (es : List PitchEntry) → channel_count k es ≤ 4
channels-few (Kind.Single c) es = omega arith
channels-few Kind.Blend es = omega arith

reach_few : (e : PitchEntry) (c n : ℕ) → partial_reach e c n ≤ n
unfolding partial_reach
reach_few e c zero = omega arith
reach_few e c (suc n) = go (is_nonzero (partial_coeff e c n)) (reach_few e c n)
  where
    go : (b : Bool) → partial_reach e c n ≤ n → cond b (suc n) (partial_reach e c n) ≤ suc n
    go true h = omega arith
    go false h = omega arith

reach-in-few : (e : PitchEntry) (n : ℕ) → reach_in e n ≤ m_partials e
unfolding reach_in
reach-in-few e zero = omega arith
reach-in-few e (suc n) = let a = reach-in-few e n in let b = reach_few e n (m_partials e) in omega arith

phases-for-few : (k : Kind) (n : ℕ) (e : PitchEntry) → phases_for k n e ≤ m_partials e
phases-for-few (Kind.Single c) n e = go (has_channel e c)
  where
    go : (b : Bool) → cond b (m_partials e) 0 ≤ m_partials e
    go true = omega arith
    go false = omega arith
phases-for-few Kind.Blend n e = reach-in-few e n

phases-few : (k : Kind) (n : ℕ) (es : List PitchEntry) → all sizes_ok es ≡ true → phase_count k n es ≤ 32
unfolding all most
phases-few k n [] h = omega arith
phases-few k n (e ∷ es) h =
    let p = both_true (sizes_ok e) (all sizes_ok es) h in
    let m : m_partials e ≤ 32 = leb-true _ _ (both_true (leb (m_partials e) 32) (leb e.j_noise 16) p.0).0 in
    let a = phases-for-few k n e in
    let b = phases-few k n es p.1 in
    omega arith

-- ---- live bands ascend, each below the band count
record Rising (b : ℕ) (l : List ℕ) : Type 0 where
  below : (i : ℕ) → i < length l → get_or l i 0 < b
  up : (i : ℕ) → i + 1 < length l → get_or l i 0 < get_or l (i + 1) 0

rising_snoc : (b : ℕ) (l : List ℕ) → Rising b l → Rising (suc b) (l ++ (b ∷ []))
rising_snoc b l r = record { below = below; up = up }
  where
    at : (i : ℕ) → i < length l → get_or (l ++ (b ∷ [])) i 0 ≡ get_or l i 0
    at i h = get_or-append l (b ∷ []) 0 i h

    last : (i : ℕ) → i ≡ length l → get_or (l ++ (b ∷ [])) i 0 ≡ b
    last i h = rw h (get_or-append_seam l b [] 0)

    cases : (i : ℕ) → i < length (l ++ (b ∷ [])) → (i ≡ length l) ⊎ (i < length l)
    cases i h =
        let q : i < suc (length l) = omega (arith, length-append l (b ∷ [])) in
        eq-or-lt_of_le (le_of_suc-le-suc q)

    below : (i : ℕ) → i < length (l ++ (b ∷ [])) → get_or (l ++ (b ∷ [])) i 0 < suc b
    below i h = go (cases i h)
      where
        go : (i ≡ length l) ⊎ (i < length l) → get_or (l ++ (b ∷ [])) i 0 < suc b
        go (inl e) = omega (arith, last i e)
        go (inr k) = omega (arith, at i k, r.below i k)

    up : (i : ℕ) → i + 1 < length (l ++ (b ∷ [])) → get_or (l ++ (b ∷ [])) i 0 < get_or (l ++ (b ∷ [])) (i + 1) 0
    up i h = go (cases (i + 1) h)
      where
        go : (i + 1 ≡ length l) ⊎ (i + 1 < length l) → get_or (l ++ (b ∷ [])) i 0 < get_or (l ++ (b ∷ [])) (i + 1) 0
        go (inl e) = omega (arith, last (i + 1) e, at i (omega arith), r.below i (omega arith))
        go (inr k) = omega (arith, at i (omega arith), at (i + 1) k, r.up i k)

rising-more : (b : ℕ) (l : List ℕ) → Rising b l → Rising (suc b) l
rising-more b l r = record { below = λ i h. omega (arith, r.below i h); up = r.up }

live-rising : (k : Kind) (es : List PitchEntry) (b : ℕ) → Rising b (live_bands k es b)
unfolding live_bands
live-rising k es zero = record { below = λ i h. absurd (omega arith); up = λ i h. absurd (omega arith) }
live-rising k es (suc b) = go (is_live k es b) (live-rising k es b)
  where
    go : (x : Bool) → Rising b (live_bands k es b) → Rising (suc b) (live_bands k es b ++ cond x (b ∷ []) [])
    go true r = rising_snoc b (live_bands k es b) r
    go false r = rw (append-nil (live_bands k es b)) (rising-more b (live_bands k es b) r)

bands-below : (b : ℕ) (l : List ℕ) → Rising b l → every (λ i. ltb (get_or (padded 16 0 l) i 0) b) (length l) ≡ true
bands-below b l r = at_every _ (length l) λ i k. rw (get_or-padded 16 0 0 l i k) (lt-ltb (get_or l i 0) b (r.below i k))

bands-ascend : (b : ℕ) (l : List ℕ) → Rising b l → bands_ascend (padded 16 0 l) (length l) ≡ true
bands-ascend b l r = at_every _ (length l - 1) λ i k.
    rw (get_or-padded 16 0 0 l i (omega arith), get_or-padded 16 0 0 l (i + 1) (omega arith)) (lt-ltb (get_or l i 0) (get_or l (i + 1) 0) (r.up i (omega arith)))

-- ---- phases are 0
zero-passes : phase_ok (quotient 0 1) ≡ true
unfolding round lt le eq
zero-passes = refl

pub phases-ok : (m : ℕ) → m ≤ 32 → phases_ok (replicate 32 (quotient 0 1)) m ≡ true
unfolding phases_ok
phases-ok m h = at_every _ m λ i k. ap phase_ok (get_or-replicate 32 i (quotient 0 1) nan (omega arith)) ∙ zero-passes

-- ---- the whole
value-pitch : (e : PitchEntry) → values_ok e ≡ true → pitch_ok (pitch e) ≡ true
unfolding values_ok
value-pitch e h = (both_true (pitch_ok (pitch e)) (stretch_ok (f32 e.stretch) && (all (λ b. finite (f32 b)) e.coefficients && (present_finite (metadata_value mainlobe_key e.metadata) && present_finite (metadata_value noise_gain_key e.metadata)))) h).0

value-stretch : (e : PitchEntry) → values_ok e ≡ true → stretch_ok (f32 e.stretch) ≡ true
unfolding values_ok
value-stretch e h = (both_true (stretch_ok (f32 e.stretch)) (all (λ b. finite (f32 b)) e.coefficients && (present_finite (metadata_value mainlobe_key e.metadata) && present_finite (metadata_value noise_gain_key e.metadata))) (both_true (pitch_ok (pitch e)) (stretch_ok (f32 e.stretch) && (all (λ b. finite (f32 b)) e.coefficients && (present_finite (metadata_value mainlobe_key e.metadata) && present_finite (metadata_value noise_gain_key e.metadata)))) h).1).0

and-true : (a b : Bool) → a ≡ true → b ≡ true → a && b ≡ true
and-true a b p q = rw (p, q) refl

-- ---- what a fresh voice's lists hold, by their names
abbrev column : (PitchEntry → Float) → List PitchEntry → List Float
column g vs = padded 16 (quotient 0 1) (map g vs)

module _ (k : Kind) (es : List PitchEntry) (rate : Float) (centres : List Float) (few : length (voice_entries k es) ≤ 16) where
  sized : (g : PitchEntry → Float) → length (column g (voice_entries k es)) ≡ 16
  sized g = length-mapped g (quotient 0 1) 16 (voice_entries k es) few

  -- LAW
  pub fresh-pitches : pitches (fresh_voice k es rate centres) ≡ padded 16 (quotient 0 1) (map (λ e. f32 e.f0_hz) (voice_entries k es))
  unfolding fresh_voice fresh_lists
  fresh-pitches = list-first (column pitch (voice_entries k es)) _ (sized pitch)

  -- LAW
  pub fresh-stretches : stretches (fresh_voice k es rate centres) ≡ padded 16 (quotient 0 1) (map (λ e. f32 e.stretch) (voice_entries k es))
  unfolding fresh_voice fresh_lists
  fresh-stretches =
      list-later (column pitch (voice_entries k es)) _ 0 (sized pitch)
      ∙ list-first (column (λ e. f32 e.stretch) (voice_entries k es)) _ (sized (λ e. f32 e.stretch))

  -- how many places its short lists have
  pub fresh-places : length centres ≤ 16 → length (fresh_voice k es rate centres).lists ≡ 176
  unfolding fresh_voice fresh_lists
  fresh-places h =
      let vs = voice_entries k es in
      let x = init_floats centres rate in
      let z = padded 16 (quotient 0 1) centres in
      let rest : length (x ++ z) ≡ 112 = length-append x z ∙ rw (length-init centres rate h, length-padded (quotient 0 1) 16 centres h) refl in
      ap length (lists-split vs few centres x) ∙ length-append (front vs few centres) (x ++ z) ∙ rw (front_long vs few centres, rest) refl

  -- LAW
  pub fresh-centres : length centres ≤ 16 → list_at (fresh_voice k es rate centres).lists 10 ≡ padded 16 (quotient 0 1) centres
  unfolding fresh_voice fresh_lists
  fresh-centres h =
      let vs = voice_entries k es in
      let x = init_floats centres rate in
      ap (λ (l : List Float). list_at l 10) (lists-split vs few centres x)
      ∙ centres-at (front vs few centres) x (padded 16 (quotient 0 1) centres) (front_long vs few centres) (length-init centres rate h) (length-padded (quotient 0 1) 16 centres h)

  -- place i of band b
  band-place : length centres ≤ 16 → (b i : ℕ) → b < 16 → i < 5
      → get_or (fresh_voice k es rate centres).lists (16 + (16 + (16 + (16 + (b * 5 + i))))) nan
      ≡ get_or (coeff_floats (get_or (padded 16 zero_coeffs (map (λ c. (band_from c rate).coeffs) centres)) b zero_coeffs)) i nan
  unfolding fresh_voice fresh_lists init_floats
  band-place h b i l m =
      let vs = voice_entries k es in
      let bands = padded 16 zero_coeffs (map (λ (c : Float). (band_from c rate).coeffs) centres) in
      let f : ℕ → List Float = λ b. coeff_floats (get_or bands b zero_coeffs) in
      let n = length-join_to f 5 (λ i. refl) 16 in
      get_d_past (column pitch vs) _ 16 (16 + (16 + (16 + (b * 5 + i)))) nan (sized pitch)
      ∙ get_d_past (column (λ e. f32 e.stretch) vs) _ 16 (16 + (16 + (b * 5 + i))) nan (sized (λ e. f32 e.stretch))
      ∙ get_d_past (column (gain_of mainlobe_key) vs) _ 16 (16 + (b * 5 + i)) nan (sized (gain_of mainlobe_key))
      ∙ get_d_past (column (gain_of noise_gain_key) vs) _ 16 (b * 5 + i) nan (sized (gain_of noise_gain_key))
      ∙ ap (λ (l : List Float). get_or l (b * 5 + i) nan) (append_assoc (join_to f 16) _ _)
      ∙ get_or-append (join_to f 16) _ nan (b * 5 + i) (omega arith)
      ∙ join_to-at f 5 (λ i. refl) 16 b i nan l m

  -- LAW
  pub fresh-band : length centres ≤ 16 → (b : ℕ) → b < 16
      → band_at (fresh_voice k es rate centres).lists b ≡ get_or (padded 16 zero_coeffs (map (λ c. (band_from c rate).coeffs) centres)) b zero_coeffs
  fresh-band h b l =
      let at : (i : ℕ) → i < 5 → get_or (fresh_voice k es rate centres).lists (64 + b * 5 + i) nan ≡ get_or (coeff_floats (get_or (padded 16 zero_coeffs (map (λ c. (band_from c rate).coeffs) centres)) b zero_coeffs)) i nan
      = λ i m. let q : 64 + b * 5 + i ≡ 16 + (16 + (16 + (16 + (b * 5 + i)))) = omega arith in rw q (band-place h b i l m) in
      let z : 64 + b * 5 ≡ 64 + b * 5 + 0 = omega arith in
      rw (ap (λ (x : ℕ). get_or (fresh_voice k es rate centres).lists x nan) z ∙ at 0 (omega arith), at 1 (omega arith), at 2 (omega arith), at 3 (omega arith), at 4 (omega arith)) refl

-- ---- question 13
module _ (k : Kind) (es : List PitchEntry) (rate : Float) (centres : List Float) (a : Accepted k es rate centres) where
  pub entries-few : length (voice_entries k es) ≤ 16
  entries-few = let g = gathered-length k [] es in omega (arith, a.few)

  counts-ok : counts_ok (fresh_voice k es rate centres).set ≡ true
  unfolding counts_ok fresh_voice
  counts-ok =
      let b = bands-few k es a.sizes in
      let s = live-short k es (band_count k es) in
      let l : length (live_bands k es (band_count k es)) ≤ 16 = omega arith in
      and-true _ _ (le-leb _ _ entries-few)
      (and-true _ _ (le-leb _ _ (phases-few k (channel_count k es) es a.sizes))
      (and-true _ _ (le-leb _ _ b)
      (and-true _ _ (le-leb _ _ (channels-few k es)) (le-leb _ _ l))))

  entries-ok : entries_ok (fresh_voice k es rate centres).lists (length (voice_entries k es)) ≡ true
  unfolding entries_ok all ascends
  entries-ok =
      let v = all-gathered values_ok k [] es refl a.values in
      let p = all-imp values_ok (λ (e : PitchEntry). pitch_ok (pitch e)) (voice_entries k es) value-pitch v in
      let s = all-imp values_ok (λ (e : PitchEntry). stretch_ok (f32 e.stretch)) (voice_entries k es) value-stretch v in
      let g = gathered-ascends k [] es refl (all-imp values_ok (λ (e : PitchEntry). pitch_ok (pitch e)) es value-pitch a.values) refl in
      simp (fresh-pitches k es rate centres entries-few, fresh-stretches k es rate centres entries-few)
      (and-true _ _ (padded-all pitch_ok pitch (quotient 0 1) 16 (voice_entries k es) p)
      (and-true _ _ (pitches-ascend (voice_entries k es) g.1) (padded-all stretch_ok (λ (e : PitchEntry). f32 e.stretch) (quotient 0 1) 16 (voice_entries k es) s)))

  live-ok : live_ok (fresh_voice k es rate centres).set ≡ true
  unfolding live_ok fresh_voice
  live-ok =
      let r = live-rising k es (band_count k es) in
      and-true _ _ (bands-below (band_count k es) (live_bands k es (band_count k es)) r) (bands-ascend (band_count k es) (live_bands k es (band_count k es)) r)

  centres-ok : centres_finite (fresh_voice k es rate centres).lists (band_count k es) ≡ true
  unfolding centres_finite all
  centres-ok =
      let b = bands-few k es a.sizes in
      at_every _ (band_count k es) λ i l.
      rw (fresh-centres k es rate centres entries-few (omega (arith, a.as_many)), get_or-padded 16 (quotient 0 1) nan centres i (omega (arith, a.as_many)))
      (all-at finite centres i a.centres-finite (omega (arith, a.as_many)))

  pub accepted-rules : keeps_rules (fresh_voice k es rate centres) ≡ true
  unfolding rules_of fresh_voice
  accepted-rules =
      and-true _ _ counts-ok
      (and-true _ _ entries-ok
      (and-true _ _ a.rate-ok
      (and-true _ _ live-ok (and-true _ _ centres-ok (phases-ok _ (phases-few k (channel_count k es) es a.sizes))))))

-- LAW: a fresh voice keeps the voice rules
pub fresh-rules : (m : Making) → (make_question m).number ≡ 0 → keeps_rules (fresh_voice m.kind (entries_of (decode m.image)) m.rate m.centres) ≡ true
fresh-rules m h = make-accepted m h λ t e p a. rw p (accepted-rules m.kind t.entries m.rate m.centres a)
