-- Laws of what is copied: the turns of the loop, and a slice that is written whole. Assumes nothing.
use Prim.Native.Nat.{ℕ, zero, suc, ◌+◌, ◌<◌}
use mathlib.Core.Path.{◌≡◌, refl, ap, sym, ◌∙◌}
use mathlib.Core.List.{List, [], ◌∷◌, ◌++◌}
use native.Mathlib.Omega.{arith}
use native.Mathlib.Numerals.{add-one}
use lib.ListN.{length, take, drop, get_or, set}
use lib.Seq.{drop-cons, take-suc, set_at, append_snoc, length-take-le}
use Rattle.std.specs.Prelude.{min}
use Rattle.wire.specs.Copy.{copied}

module _ {A : Type 0} where
  -- an element more
  pub copied-next : (s t : List A) (i : ℕ) (d : A) → i < length s → i < length t → set (take i s ++ drop i t) i (get_or s i d) ≡ take (i + 1) s ++ drop (i + 1) t
  copied-next s t i d p q =
      ap (λ (l : List A). set (take i s ++ l) i (get_or s i d)) (drop-cons t i d q)
      ∙ set_at (take i s) (get_or t i d) (drop (suc i) t) (get_or s i d) i (length-take-le i s (omega arith))
      ∙ sym (append_snoc (take i s) (get_or s i d) (drop (suc i) t))
      ∙ rw (add-one, take-suc s i d p) refl

  -- all of them
  pub copied-done : (s t : List A) (i : ℕ) → i ≡ min (length s) (length t) → take i s ++ drop i t ≡ copied s t
  unfolding copied
  copied-done [] t zero e = refl
  copied-done [] t (suc i) e = absurd (omega arith)
  copied-done (b ∷ s) [] zero e = refl
  copied-done (b ∷ s) [] (suc i) e = absurd (omega arith)
  copied-done (b ∷ s) (c ∷ t) zero e = absurd (omega arith)
  copied-done (b ∷ s) (c ∷ t) (suc i) e = ap (λ (l : List A). b ∷ l) (copied-done s t i (omega arith))

  -- LAW: a slice of the same length is all of the other's elements
  pub copied-whole : (s t : List A) → length t ≡ length s → copied s t ≡ s
  unfolding copied
  copied-whole [] [] e = refl
  copied-whole [] (c ∷ t) e = absurd (omega arith)
  copied-whole (b ∷ s) [] e = absurd (omega arith)
  copied-whole (b ∷ s) (c ∷ t) e = ap (λ (l : List A). b ∷ l) (copied-whole s t (omega arith))
