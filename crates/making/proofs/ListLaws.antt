-- Laws of a voice's short lists on their way: how the code puts them one after the other, and what `init` makes of them. Assumes nothing.
use Prim.Native.Nat.{ℕ, ◌≤◌}
use mathlib.Core.Path.{◌≡◌, refl, ap, sym, ◌∙◌}
use mathlib.Core.List.{List, ◌++◌, map, append_assoc, append-nil}
use native.Mathlib.Omega.{arith}
use lib.ListN.{length, drop, replicate, length-append}
use lib.Seq.{take_at}
use lib.Ieee.{Float}
use Rattle.table.specs.Table.{PitchEntry}
use Rattle.float.specs.F32.{quotient}
use Rattle.voice.specs.Lists.{padded}
use Rattle.voice.specs.Voice.{with_list}
use Rattle.voice.specs.Bands.{init_floats, init_lists}
use Rattle.voice.proofs.PutLaws.{length-padded, length-mapped, put_next}
use Rattle.voice.proofs.InitLaws.{init-of}
use Rattle.making.specs.Making.{f32, gain_of, mainlobe_key, noise_gain_key, fresh_lists}

-- four lists before others
four : {A : Type 0} (a b c d rest : List A) → a ++ (b ++ (c ++ (d ++ rest))) ≡ (((a ++ b) ++ c) ++ d) ++ rest
four a b c d rest = sym (append_assoc ((a ++ b) ++ c) d rest ∙ append_assoc (a ++ b) c (d ++ rest) ∙ append_assoc a b (c ++ (d ++ rest)))

length-four : {A : Type 0} (a b c d : List A) → length a ≡ 16 → length b ≡ 16 → length c ≡ 16 → length d ≡ 16 → length (((a ++ b) ++ c) ++ d) ≡ 64
length-four a b c d h1 h2 h3 h4 = rw (length-append, length-append, length-append, h1, h2, h3, h4) refl

-- LAW: the four lists of the entries, and the centres, put into lists that are all z
module _ (z : Float) (a b c d e r1 r2 r3 r4 r5 : List Float) where
  abbrev zs : List Float
  zs = replicate 176 z

  pub lists-put : length a ≡ 16 → length b ≡ 16 → length c ≡ 16 → length d ≡ 16 → r1 ≡ with_list zs 0 a → r2 ≡ with_list r1 1 b → r3 ≡ with_list r2 2 c
      → r4 ≡ with_list r3 3 d → r5 ≡ with_list r4 10 e → r5 ≡ a ++ (b ++ (c ++ (d ++ (replicate 96 z ++ e))))
  unfolding with_list
  lists-put h1 h2 h3 h4 e1 e2 e3 e4 e5 =
      let j2 : length (a ++ b) ≡ 32 = rw (length-append, h1, h2) refl in
      let j3 : length ((a ++ b) ++ c) ≡ 48 = rw (length-append, j2, h3) refl in
      let p = ((a ++ b) ++ c) ++ d in
      let j4 : length p ≡ 64 = length-four a b c d h1 h2 h3 h4 in
      let s2 = put_next a b zs r1 r2 16 32 h1 (omega arith) e1 e2 in
      let s3 = put_next (a ++ b) c zs r2 r3 32 48 j2 (omega arith) s2 e3 in
      let s4 = put_next ((a ++ b) ++ c) d zs r3 r4 48 64 j3 (omega arith) s3 e4 in
      let between : drop 64 zs ≡ replicate 96 z ++ drop 160 zs = refl in
      let s5 : r4 ≡ (p ++ replicate 96 z) ++ drop 160 zs = s4 ∙ ap (λ t. p ++ t) between ∙ sym (append_assoc p (replicate 96 z) (drop 160 zs)) in
      put_next (p ++ replicate 96 z) e zs r4 r5 160 176 (rw (length-append, j4) refl) (omega arith) s5 e5
      ∙ append-nil ((p ++ replicate 96 z) ++ e)
      ∙ append_assoc p (replicate 96 z) e
      ∙ sym (four a b c d (replicate 96 z ++ e))

-- the short lists of a fresh voice, with any bands: the four lists of the entries, then the bands, then the centres
module _ (vs : List PitchEntry) (few : length vs ≤ 16) (centres : List Float) where
  abbrev column : (PitchEntry → Float) → List Float
  column g = padded 16 (quotient 0 1) (map g vs)

  abbrev pub lists_with : List Float → List Float
  lists_with bands =
      column (λ e. f32 e.f0_hz)
      ++ (column (λ e. f32 e.stretch)
      ++ (column (gain_of mainlobe_key) ++ (column (gain_of noise_gain_key) ++ (bands ++ padded 16 (quotient 0 1) centres))))

  abbrev pub front : List Float
  front = ((column (λ e. f32 e.f0_hz) ++ column (λ e. f32 e.stretch)) ++ column (gain_of mainlobe_key)) ++ column (gain_of noise_gain_key)

  sized : (g : PitchEntry → Float) → length (column g) ≡ 16
  sized g = length-mapped g (quotient 0 1) 16 vs few

  pub front_long : length front ≡ 64
  front_long =
      length-four (column (λ e. f32 e.f0_hz)) (column (λ e. f32 e.stretch)) (column (gain_of mainlobe_key)) (column (gain_of noise_gain_key)) (sized (λ e. f32 e.f0_hz))
      (sized (λ e. f32 e.stretch)) (sized (gain_of mainlobe_key)) (sized (gain_of noise_gain_key))

  pub lists-split : (bands : List Float) → lists_with bands ≡ front ++ (bands ++ padded 16 (quotient 0 1) centres)
  lists-split bands =
      four (column (λ e. f32 e.f0_hz)) (column (λ e. f32 e.stretch)) (column (gain_of mainlobe_key)) (column (gain_of noise_gain_key))
      (bands ++ padded 16 (quotient 0 1) centres)

  -- LAW: what `init` makes of them
  pub lists-init : (j : ℕ) → length centres ≡ j → j ≤ 16 → (bands : List Float) (rate : Float) → length bands ≡ 96
      → init_lists (lists_with bands) j rate ≡ fresh_lists vs rate centres
  unfolding fresh_lists
  lists-init j as_many most bands rate h =
      let z = padded 16 (quotient 0 1) centres in
      let own = take_at centres _ j as_many in
      ap (λ (l : List Float). init_lists l j rate) (lists-split bands)
      ∙ init-of front bands z front_long h (length-padded (quotient 0 1) 16 centres (omega arith)) j rate
      ∙ ap (λ (l : List Float). front ++ (init_floats l rate ++ z)) own
      ∙ sym (lists-split (init_floats centres rate))
