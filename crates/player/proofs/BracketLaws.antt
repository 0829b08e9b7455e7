-- The search for a frequency's neighbours, by the last pitch that is not above it.
use Rattle.std.proofs.Common.{◌≡◌, ℕ, zero, suc, ◌+◌, ◌≤◌, ◌<◌, List, get_or, take, length, true, false, refl, ap, ◌∙◌, sym, arith, add-one}
use Rattle.std.specs.Prelude.{Float}
use Rattle.std.specs.Float.{nan}
use Rattle.std.specs.Float.Ieee.{le}
use lib.Seq.{get_or-take, length-take-le}
use mathlib.Core.Logic.{⊎_elim}
use native.Mathlib.Nat.{eq-or-lt_of_le}
use Rattle.player.specs.Share.{share_of}
use Rattle.player.specs.Bracket.{not_above, neighbours}
use Rattle.player.specs.inner.Ranges.{NoneNotAbove}
use Rattle.player.specs.declared.pitch.bracket.Bracket.{Bracket}

module _ (ps : List Float) (f : Float) where
  -- from index i up to n no pitch is at or below f
  AllAbove : ℕ → ℕ → Type 0
  AllAbove i n = (k : ℕ) → i ≤ k → k < n → le (get_or ps k nan) f ≡ false

  none : (n : ℕ) → ((k : ℕ) → 0 ≤ k → k < n → le (get_or ps k nan) f ≡ false) → not_above ps f n ≡ 0
  unfolding not_above
  none zero h = refl
  none (suc n) h = rw (h n (omega arith) (omega arith)) (none n (λ k a b. h k a (omega arith)))

  last-at : (n i : ℕ) → i < n → le (get_or ps i nan) f ≡ true → ((k : ℕ) → i + 1 ≤ k → k < n → le (get_or ps k nan) f ≡ false) → not_above ps f n ≡ suc i
  unfolding not_above
  last-at zero i l t h = absurd (omega arith)
  last-at (suc n) i l t h =
      ⊎_elim (λ (e : i ≡ n). let g : le (get_or ps n nan) f ≡ true = rw e at t in rw g (ap suc (sym e)))
      (λ (q : i < n). rw (h n (omega arith) (omega arith)) (last-at n i q t (λ k a b. h k a (omega arith)))) (eq-or-lt_of_le (omega arith))

  -- what is known of the first n pitches by themselves
  module _ (n : ℕ) (L : n ≤ length ps) where
    within : (i : ℕ) → NoneNotAbove (take n ps) f i → (k : ℕ) → i ≤ k → k < n → le (get_or ps k nan) f ≡ false
    within i N k a b = ap (λ (z : Float). le z f) (sym (get_or-take n ps k nan b)) ∙ N k a (rw (length-take-le n ps L) b)

    -- LAW: none of them is not above f
    pub none-found : NoneNotAbove (take n ps) f 0 → Bracket.One 0 ≡ neighbours ps f (not_above ps f n)
    unfolding neighbours
    none-found N = rw (none n (within 0 N))

    module _ (i : ℕ) (l : i < length (take n ps)) (t : le (get_or (take n ps) i nan) f ≡ true) (N : NoneNotAbove (take n ps) f (i + 1)) where
      pub below : i < n
      below = rw (length-take-le n ps L) at l

      -- the last that is not above f
      pub found-le : le (get_or ps i nan) f ≡ true
      found-le = ap (λ (z : Float). le z f) (sym (get_or-take n ps i nan below)) ∙ t

      -- and the one after it, up to the next, is above it
      pub next-above : le (get_or ps n nan) f ≡ false → le (get_or ps (i + 1) nan) f ≡ false
      next-above h =
          ⊎_elim (λ (e : i + 1 ≡ n). ap (λ (z : ℕ). le (get_or ps z nan) f) e ∙ h) (λ (q : i + 1 < n). within (i + 1) N (i + 1) (omega arith) q)
          (eq-or-lt_of_le (let b = below in omega arith))

      -- LAW: it and the one after it are the neighbours
      pub found : Bracket.Between i (i + 1) (share_of (get_or ps i nan) f (get_or ps (i + 1) nan)) ≡ neighbours ps f (not_above ps f n)
      unfolding neighbours
      found = rw (last-at n i below found-le (within (i + 1) N), add-one i)
