-- Laws of what `init` gives: how the code puts it among the lists, and what stands there of lists that are put together. Assumes nothing.
use Prim.Native.Nat.{ℕ, ◌+◌, ◌*◌, ◌≤◌, min}
use mathlib.Core.Path.{◌≡◌, refl, ap, sym, ◌∙◌}
use mathlib.Core.List.{List, ◌++◌, append_assoc}
use mathlib.Core.Bool.{Bool, true, false}
use native.Mathlib.Omega.{arith}
use lib.ListN.{length, take, drop, get_or, length-append}
use lib.Seq.{take_all, length-take-le, take_at, drop_at}
use lib.Dec.{leb}
use lib.Ieee.{Float, nan}
use borrow.Author.Tests.{leb-true, leb-false}
use Rattle.float.specs.F32.{quotient}
use Rattle.filters.specs.Band.{zero_coeffs, band_from}
use Rattle.voice.specs.Bands.{coeff_floats, band_floats, init_floats, init_lists}
use Rattle.voice.specs.Voice.{list_at, with_list}
use Rattle.voice.specs.declared.bands.Bands.{Bands}
use Rattle.voice.specs.inner.BandArrays.{band_arrays}
use Rattle.voice.proofs.Loops.{length-up_to, up_to-as, up_to-same, length-join_to}
use Rattle.voice.proofs.PutLaws.{length-mapped, get_d_past, put_next}

-- the first j of a list that has no more than n
take_min : {A : Type 0} (xs : List A) (j n : ℕ) → length xs ≤ n → take (min j n) xs ≡ take j xs
take_min xs j n h = go (leb j n) refl
  where
    go : (b : Bool) → leb j n ≡ b → take (min j n) xs ≡ take j xs
    go true e = let l = leb-true j n e in let q : min j n ≡ j = omega arith in rw q refl
    go false e = let l = leb-false j n e in let q : min j n ≡ n = omega arith in rw (q, take_all n xs h, take_all j xs (omega arith)) refl

length-bands : (centres : List Float) (rate : Float) → length (band_floats (band_arrays centres rate).coeffs) ≡ 80
length-bands centres rate = length-join_to (λ b. coeff_floats (get_or (band_arrays centres rate).coeffs b zero_coeffs)) 5 (λ i. refl) 16

-- the bands, put after the first four lists, and the compensations after them
pub init-put : (l r1 r2 centres : List Float) (j : ℕ) (rate : Float) (bands : Bands) → length l ≡ 176 → centres ≡ list_at l 10
    → bands ≡ band_arrays (take (min j 16) centres) rate → r1 ≡ take 64 l ++ (band_floats bands.coeffs ++ drop 144 l)
    → r2 ≡ with_list r1 9 bands.compensation → r2 ≡ init_lists l j rate
unfolding with_list init_lists init_floats list_at
init-put l r1 r2 centres j rate bands h c b e f =
    let few : length centres ≤ 16 = omega (arith, ap length c, length-up_to (λ i. get_or l (10 * 16 + i) nan) 16) in
    let n : bands ≡ band_arrays (take j (list_at l 10)) rate = b ∙ ap (λ (t : List Float). band_arrays t rate) (take_min centres j 16 few ∙ ap (take j) c) in
    let x = band_floats bands.coeffs in
    let p : length (take 64 l ++ x) ≡ 144 =
    length-append (take 64 l) x ∙ rw (length-take-le 64 l (omega arith), ap (λ (t : Bands). length (band_floats t.coeffs)) b, length-bands (take (min j 16) centres) rate) refl in
    put_next (take 64 l ++ x) bands.compensation l r1 r2 144 160 p (omega arith) (e ∙ sym (append_assoc (take 64 l) x (drop 144 l))) f
    ∙ append_assoc (take 64 l ++ x) bands.compensation (drop 160 l)
    ∙ append_assoc (take 64 l) x (bands.compensation ++ drop 160 l)
    ∙ ap (λ (t : List Float). take 64 l ++ t) (sym (append_assoc x bands.compensation (drop 160 l)))
    ∙ ap (λ (t : Bands). take 64 l ++ ((band_floats t.coeffs ++ t.compensation) ++ drop 160 l)) n

-- how long it is
pub length-init : (centres : List Float) (rate : Float) → length centres ≤ 16 → length (init_floats centres rate) ≡ 96
unfolding init_floats
length-init centres rate h = rw (length-append, length-bands centres rate, length-mapped (λ (c : Float). (band_from c rate).compensation) (quotient 0 1) 16 centres h) refl

-- LAW: of lists that are put together, the first four, the bands with their compensations, and the centres
module _ (a b c : List Float) (a-long : length a ≡ 64) (b-long : length b ≡ 96) (c-long : length c ≡ 16) where
  pub centres-at : list_at (a ++ (b ++ c)) 10 ≡ c
  unfolding list_at
  centres-at =
      up_to-as _ (λ i. get_or c i nan) 16
      (λ i l. let q : 10 * 16 + i ≡ 64 + (96 + i) = omega arith in rw q (get_d_past a (b ++ c) 64 (96 + i) nan a-long ∙ get_d_past b c 96 i nan b-long))
      ∙ up_to-same c nan 16 c-long

  pub init-of : (j : ℕ) (rate : Float) → init_lists (a ++ (b ++ c)) j rate ≡ a ++ (init_floats (take j c) rate ++ c)
  unfolding init_lists
  init-of j rate =
      let d : drop 160 (a ++ (b ++ c)) ≡ c =
      ap (drop 160) (sym (append_assoc a b c)) ∙ drop_at (a ++ b) c 160 (rw (length-append, a-long, b-long) refl) in
      rw (take_at a (b ++ c) 64 a-long, centres-at, d) refl
