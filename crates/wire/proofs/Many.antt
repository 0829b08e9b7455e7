-- Things one after the other: laws of parsers for loops over them, and of a parser's steps taken apart. Assumes nothing.
use Prim.Native.Nat.{ℕ, zero, suc, ◌+◌, ◌-◌, ◌≤◌, ◌<◌}
use mathlib.Core.Path.{◌≡◌, refl, ap, sym, ◌∙◌}
use mathlib.Core.List.{List, [], ◌∷◌}
use mathlib.Core.Bool.{Bool, true, false}
use native.Mathlib.Omega.{arith}
use lib.ListN.{length}
use Rattle.wire.specs.Parse.{Refusal, Parsed, Parser, ok, refused, asked, then, many, standing}

-- a loop from 0 starts at the whole
pub whole : (n : ℕ) → n - 0 ≡ n
whole n = omega arith

-- one turn of a loop over them, and its end
module _ {A : Type 0} (p : ℕ → Parser A) (s : List ℕ) where
  pub many-go : (i n at next : ℕ) (a : A) → i < n → p i s at ≡ ok a next → many p i (n - i) s at ≡ then (many p (i + 1) (n - (i + 1)) s next) (λ l e. ok (a ∷ l) e)
  unfolding many
  many-go i n at next a h g = let q : n - i ≡ suc (n - (i + 1)) = omega arith in rw (q, g) refl

  pub many-no : (i n at : ℕ) (r : Refusal) → i < n → p i s at ≡ refused r → many p i (n - i) s at ≡ refused r
  unfolding many
  many-no i n at r h g = let q : n - i ≡ suc (n - (i + 1)) = omega arith in rw (q, g) refl

  pub many-end : (i n at : ℕ) → n ≤ i → many p i (n - i) s at ≡ ok [] at
  unfolding many
  many-end i n at h = let q : n - i ≡ 0 = omega arith in rw q refl

  pub stand-go : (i n at next : ℕ) (a : A) → i < n → p i s at ≡ ok a next → standing p i (n - i) s at ≡ a ∷ standing p (i + 1) (n - (i + 1)) s next
  unfolding standing
  stand-go i n at next a h g = let q : n - i ≡ suc (n - (i + 1)) = omega arith in rw (q, g) refl

  pub stand-no : (i n at : ℕ) (r : Refusal) → i < n → p i s at ≡ refused r → standing p i (n - i) s at ≡ []
  unfolding standing
  stand-no i n at r h g = let q : n - i ≡ suc (n - (i + 1)) = omega arith in rw (q, g) refl

  pub stand-end : (i n at : ℕ) → n ≤ i → standing p i (n - i) s at ≡ []
  unfolding standing
  stand-end i n at h = let q : n - i ≡ 0 = omega arith in rw q refl

-- a step of a parser that went on, taken apart
pub went : {A B G : Type 0} (r : Parsed A) (f : A → ℕ → Parsed B) (b : B) (e : ℕ) → then r f ≡ ok b e → ((a : A) (m : ℕ) → r ≡ ok a m → f a m ≡ ok b e → G) → G
went (ok a m) f b e h k = k a m refl h
went (refused r) f b e h k = let z : ◌≡◌ {A = ℕ} 0 1 = cc in absurd (omega arith)

pub asked-ok : (b : Bool) (at e : ℕ) (r : Refusal) (x : Bool) → asked b at r ≡ ok x e → (b ≡ true) × (at ≡ e)
asked-ok true at e r x h = (refl, cc)
asked-ok false at e r x h = let z : ◌≡◌ {A = ℕ} 0 1 = cc in absurd (omega arith)

-- the things of an answer are those that stand there, and as many as were asked for
module _ {A : Type 0} (p : ℕ → Parser A) (s : List ℕ) where
  pub many-stand : (n i at e : ℕ) (l : List A) → many p i n s at ≡ ok l e → standing p i n s at ≡ l
  unfolding many standing
  many-stand zero i at e l h = cc
  many-stand (suc n) i at e l h =
      went (p i s at) (λ a next. then (many p (i + 1) n s next) (λ l e. ok (a ∷ l) e)) l e h λ a m g h₁.
      went (many p (i + 1) n s m) (λ l e. ok (a ∷ l) e) l e h₁ λ k x g₂ h₂.
      let q : l ≡ a ∷ k = cc in
      rw (g, many-stand n (i + 1) m x k g₂) (sym q)

  pub many-length : (n i at e : ℕ) (l : List A) → many p i n s at ≡ ok l e → length l ≡ n
  unfolding many
  many-length zero i at e l h = let q : l ≡ [] = cc in ap length q
  many-length (suc n) i at e l h =
      went (p i s at) (λ a next. then (many p (i + 1) n s next) (λ l e. ok (a ∷ l) e)) l e h λ a m g h₁.
      went (many p (i + 1) n s m) (λ l e. ok (a ∷ l) e) l e h₁ λ k x g₂ h₂.
      let q : l ≡ a ∷ k = cc in
      ap length q ∙ ap suc (many-length n (i + 1) m x k g₂)
