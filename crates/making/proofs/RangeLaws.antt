-- Laws of what is asked of the numbers below n, in their order. Assumes nothing.
use Prim.Native.Nat.{ℕ, zero, suc, ◌+◌, max}
use mathlib.Core.Path.{◌≡◌, refl, ap, ◌∙◌}
use mathlib.Core.List.{[], ◌∷◌, ◌++◌}
use mathlib.Core.Bool.{Bool, true, false, ◌||◌}
use native.Mathlib.Omega.{arith}
use Rattle.std.specs.List.{list_any, range_with_len, fold}
use Rattle.std.proofs.lemmas.List.Folds.{list_any-append}
use Rattle.std.proofs.lemmas.List.Sums.{fold-append}
use Rattle.table.specs.Table.{PitchEntry, m_partials}
use Rattle.making.specs.Making.{partial_reach, reach_in, live_in, is_nonzero, noise_coeff}

range-more : (a n : ℕ) → range_with_len a (suc n) ≡ range_with_len a n ++ ((a + n) ∷ [])
range-more a zero = let e : a ≡ a + 0 = omega arith in ap (λ x. x ∷ []) e
range-more a (suc n) = let e : a + 1 + n ≡ a + suc n = omega arith in ap (λ l. a ∷ l) (range-more (a + 1) n ∙ ap (λ x. range_with_len (a + 1) n ++ (x ∷ [])) e)

range-below : (n : ℕ) → range_with_len 0 (suc n) ≡ range_with_len 0 n ++ (n ∷ [])
range-below n = let e : 0 + n ≡ n = omega arith in range-more 0 n ∙ ap (λ x. range_with_len 0 n ++ (x ∷ [])) e

-- the highest reach in the channels below n
pub reach-below : (e : PitchEntry) (m : ℕ) → m ≡ m_partials e → (n : ℕ) → fold (λ a c. max a (partial_reach e c m)) 0 (range_with_len 0 n) ≡ reach_in e n
unfolding reach_in
reach-below e m h zero = refl
reach-below e m h (suc n) =
    ap (fold (λ a c. max a (partial_reach e c m)) 0) (range-below n)
    ∙ fold-append (λ a c. max a (partial_reach e c m)) 0 (range_with_len 0 n) (n ∷ [])
    ∙ ap (λ (a : ℕ). max a (partial_reach e n m)) (reach-below e m h n)
    ∙ ap (λ (m : ℕ). max (reach_in e n) (partial_reach e n m)) h

or-swap : (a b : Bool) → a || (b || false) ≡ b || a
or-swap true true = refl
or-swap true false = refl
or-swap false true = refl
or-swap false false = refl

-- a band that is not 0 in one of the channels below n
pub live-below : (e : PitchEntry) (b n : ℕ) → list_any (λ q. is_nonzero (noise_coeff e q b)) (range_with_len 0 n) ≡ live_in e b n
unfolding live_in
live-below e b zero = refl
live-below e b (suc n) =
    ap (list_any (λ q. is_nonzero (noise_coeff e q b))) (range-below n)
    ∙ list_any-append (λ q. is_nonzero (noise_coeff e q b)) (range_with_len 0 n) (n ∷ [])
    ∙ ap (λ (t : Bool). t || (is_nonzero (noise_coeff e n b) || false)) (live-below e b n)
    ∙ or-swap (live_in e b n) (is_nonzero (noise_coeff e n b))
