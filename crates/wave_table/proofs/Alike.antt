-- The wave as 1025 floats: the table's rule and the differences of its neighbours, each by one test over all entries.
use mathlib.Core.Path.{◌≡◌, refl, ap, ◌∙◌}
use mathlib.Core.List.{List}
use mathlib.Core.Bool.{Bool, true, false, ◌&&◌}
use Prim.Native.Nat.{ℕ, ◌+◌, ◌≤◌, ◌<◌}
use native.Mathlib.Omega.{arith}
use lib.Dec.{T, eqb, eqb→eq}
use lib.IntN.{ℤ, pos, negsuc, ◌-ℤ◌}
use lib.ListN.{get_or}
use lib.Ieee.{Float, nan, inf, fin, binary32, of_int, sub}
use lib.Ieee.Fits.{and_l, and_r}
use Rattle.wave_table.specs.Wave.{quarter_of, wave_of, Waves}
use Rattle.wave_table.proofs.Every.{all_up_to, up_to-is}

-- ---- whether two finite floats are written alike
same_sign : Bool → Bool → Bool
same_sign true t = t
same_sign false true = false
same_sign false false = true

same_exponent : ℤ → ℤ → Bool
same_exponent (pos a) (pos b) = eqb a b
same_exponent (pos a) (negsuc b) = false
same_exponent (negsuc a) (pos b) = false
same_exponent (negsuc a) (negsuc b) = eqb a b

unfoldable pub alike : Float → Float → Bool
unfolding same_sign same_exponent
alike nan y = false
alike (inf s) y = false
alike (fin s m e) nan = false
alike (fin s m e) (inf t) = false
alike (fin s m e) (fin t n d) = same_sign s t && eqb m n && same_exponent e d

sign-is : (s t : Bool) → T (same_sign s t) → s ≡ t
unfolding same_sign
sign-is true true h = refl
sign-is true false h = absurd h
sign-is false true h = absurd h
sign-is false false h = refl

exponent-is : (e d : ℤ) → T (same_exponent e d) → e ≡ d
unfolding same_exponent
exponent-is (pos a) (pos b) h = ap pos (eqb→eq a b h)
exponent-is (pos a) (negsuc b) h = absurd h
exponent-is (negsuc a) (pos b) h = absurd h
exponent-is (negsuc a) (negsuc b) h = ap negsuc (eqb→eq a b h)

pub alike_is : (x y : Float) → T (alike x y) → x ≡ y
unfolding alike
alike_is nan y h = absurd h
alike_is (inf s) y h = absurd h
alike_is (fin s m e) nan h = absurd h
alike_is (fin s m e) (inf t) h = absurd h
alike_is (fin s m e) (fin t n d) h =
    let a = same_sign s t in
    let b = eqb m n in
    let c = same_exponent e d in
    ap (λ (z : Bool). fin z m e) (sign-is s t (and_l a b (and_l (a && b) c h)))
    ∙ ap (λ (z : ℕ). fin t z e) (eqb→eq m n (and_r a b (and_l (a && b) c h)))
    ∙ ap (λ (z : ℤ). fin t n z) (exponent-is e d (and_r (a && b) c h))

-- ---- entry k is W(k)
unfoldable pub waved : List Float → ℕ → Bool
unfolding alike wave_of quarter_of of_int
waved xs k = alike (get_or xs k nan) (of_int binary32 (wave_of k))

-- a list of which that holds from 0 to 1024 is the table
pub waves-is : (xs : List Float) → T (all_up_to (waved xs) 1025) → Waves xs
unfolding waved
waves-is xs t = record { entry = λ k h. alike_is (get_or xs k nan) (of_int binary32 (wave_of k)) (up_to-is (waved xs) 1025 t k (below k h)) }
  where
    below : (k : ℕ) → k ≤ 1024 → k < 1025
    below k h = omega arith

-- ---- the difference of neighbours, as floats: that of the whole numbers
exact : ℕ → Bool
unfolding alike wave_of quarter_of of_int sub
exact k = alike (sub binary32 (of_int binary32 (wave_of (k + 1))) (of_int binary32 (wave_of k))) (of_int binary32 (wave_of (k + 1) -ℤ wave_of k))

-- LAW: the difference of neighbours is exact
pub rise-exact : (k : ℕ) → k < 1024 → sub binary32 (of_int binary32 (wave_of (k + 1))) (of_int binary32 (wave_of k)) ≡ of_int binary32 (wave_of (k + 1) -ℤ wave_of k)
unfolding exact alike wave_of quarter_of of_int sub
rise-exact k h = alike_is (sub binary32 (of_int binary32 (wave_of (k + 1))) (of_int binary32 (wave_of k))) (of_int binary32 (wave_of (k + 1) -ℤ wave_of k)) (up_to-is exact 1024 tt k h)
