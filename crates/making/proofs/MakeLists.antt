-- Laws of arrays that are filled from the front: live bands and lists by index. Assumes nothing.
use Prim.Native.Nat.{ℕ, zero, suc, ◌+◌, ◌-◌, ◌≤◌, ◌<◌}
use mathlib.Core.Path.{◌≡◌, refl, ap, ◌∙◌}
use mathlib.Core.List.{List, [], ◌∷◌, ◌++◌, append_assoc, append-nil}
use native.Mathlib.Omega.{arith}
use lib.ListN.{length, drop, replicate, length-append}
use Rattle.voice.proofs.Loops.{drop-replicate}
use Rattle.voice.proofs.PadLaws.{pad-snoc}
use Rattle.voice.specs.Lists.{up_to}
use Rattle.making.specs.inner.Live.{live_of, with_live}

-- one live band more
pub live-push : (l : List ℕ) (b : ℕ) → length l < 16 → with_live (live_of l) b ≡ live_of (l ++ (b ∷ []))
live-push l b h = rw (pad-snoc 0 b 16 (length l) l refl h, length-append l (b ∷ [])) refl

-- lists by index
module _ {A : Type 0} (f : ℕ → A) where
  -- what follows index n is all z
  rest-same : (z : A) (n m : ℕ) → ((x : ℕ) → n ≤ x → f x ≡ z) → up_to f n ++ replicate m z ≡ up_to f (n + m)
  unfolding up_to
  rest-same z n zero h = let q : n ≡ n + 0 = omega arith in append-nil (up_to f n) ∙ ap (up_to f) q
  rest-same z n (suc m) h =
      let q : n + suc m ≡ suc n + m = omega arith in
      let w = rest-same z (suc n) m (λ x k. h x (omega arith)) in
      rw (q, ← w, h n (omega arith), append_assoc) refl

pub up_to-full : {A : Type 0} (f : ℕ → A) (z : A) (n m : ℕ) (ls : List A) → n ≤ m → ((x : ℕ) → n ≤ x → f x ≡ z) → ls ≡ up_to f n ++ drop n (replicate m z) → ls ≡ up_to f m
up_to-full f z n m ls l h e =
    let q : n + (m - n) ≡ m = omega arith in
    e ∙ ap (λ t. up_to f n ++ t) (drop-replicate z n m) ∙ rest-same f z n (m - n) h ∙ ap (up_to f) q
