-- The search for a frequency's neighbours, by its definition: what is found is one of the pitches, and lies on the right side.
use mathlib.Core.Path.{◌≡◌, refl, sym, ap, ◌∙◌}
use mathlib.Core.Logic.{⊎_elim}
use mathlib.Core.List.{List}
use mathlib.Core.Bool.{Bool, true, false, cond}
use Prim.Native.Nat.{ℕ, zero, suc, ◌≤◌, ◌<◌}
use native.Mathlib.Nat.{eq-or-lt_of_le, le_of_eq, le_trans}
use native.Mathlib.Omega.{arith}
use lib.ListN.{get_or}
use lib.Ieee.{Float, nan, le}
use Rattle.player.specs.Bracket.{not_above}

-- what the search finds is not above f0
pub not_above-le : (ps : List Float) (f : Float) (n k : ℕ) → not_above ps f n ≡ suc k → le (get_or ps k nan) f ≡ true
unfolding not_above
not_above-le ps f zero k h = absurd (omega arith)
not_above-le ps f (suc n) k h = go (le (get_or ps n nan) f) refl (not_above-le ps f n k) h
  where
    same : (n k : ℕ) → suc n ≡ suc k → n ≡ k
    same n k e = omega arith

    go : (b : Bool) → le (get_or ps n nan) f ≡ b → (not_above ps f n ≡ suc k → le (get_or ps k nan) f ≡ true) → cond b (suc n) (not_above ps f n) ≡ suc k → le (get_or ps k nan) f ≡ true
    go true e r g = rw (← same n k g) e
    go false e r g = r g

-- and it is one of the first n
pub not_above-in : (ps : List Float) (f : Float) (n : ℕ) → not_above ps f n ≤ n
unfolding not_above
not_above-in ps f zero = omega arith
not_above-in ps f (suc n) = go (le (get_or ps n nan) f) (not_above ps f n) (not_above-in ps f n)
  where
    go : (b : Bool) (a : ℕ) → a ≤ n → cond b (suc n) a ≤ suc n
    go true a h = omega arith
    go false a h = omega arith

-- and those of the first n from there on are above f0, or not to be compared
pub not_above-rest : (ps : List Float) (f : Float) (n k : ℕ) → not_above ps f n ≤ k → k < n → le (get_or ps k nan) f ≡ false
unfolding not_above
not_above-rest ps f zero k h l = absurd (omega arith)
not_above-rest ps f (suc n) k h l = go (le (get_or ps n nan) f) refl (not_above-rest ps f n k) h
  where
    go : (b : Bool) → le (get_or ps n nan) f ≡ b → (not_above ps f n ≤ k → k < n → le (get_or ps k nan) f ≡ false) → cond b (suc n) (not_above ps f n) ≤ k → le (get_or ps k nan) f ≡ false
    go true e r g = absurd (omega arith)
    go false e r g = ⊎_elim (λ (q : k ≡ n). rw q e) (λ (q : k < n). r g q) (eq-or-lt_of_le (omega arith))

-- the entry after it, up to the last, is not at or below f0
pub above-it : (ps : List Float) (f : Float) (last k : ℕ) → k ≡ not_above ps f last → le (get_or ps last nan) f ≡ false → le (get_or ps k nan) f ≡ false
above-it ps f last k e h =
    ⊎_elim (λ (q : k ≡ last). ap (λ (z : ℕ). le (get_or ps z nan) f) q ∙ h) (λ (q : k < last). not_above-rest ps f last k (le_of_eq (sym e)) q) (eq-or-lt_of_le (le_trans (le_of_eq e) (not_above-in ps f last)))
