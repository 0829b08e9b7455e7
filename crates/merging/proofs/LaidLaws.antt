-- Laws of bytes laid over a list. Assumes nothing.
use Prim.Native.Nat.{ℕ, ◌+◌, ◌≤◌}
use mathlib.Core.Path.{◌≡◌, refl, ap, sym, ◌∙◌}
use mathlib.Core.List.{List, [], ◌∷◌, ◌++◌, append_assoc, append-nil}
use native.Mathlib.Omega.{arith}
use lib.ListN.{length, take, drop, length-append, length-drop, take-append-drop}
use lib.Seq.{length-take-le, take_at, drop_at, drop-drop}
use Rattle.table.specs.Encode.{put_all}
use Rattle.merging.specs.inner.Image.{laid}

pub laid_none : (d : List ℕ) (at : ℕ) → laid d at [] ≡ d
laid_none d at = let z : at + 0 ≡ at = omega arith in rw z (ap (λ (x : List ℕ). x ++ drop at d) (append-nil (take at d)) ∙ take-append-drop at d)

module _ (d : List ℕ) (at : ℕ) (b : List ℕ) (h : at + length b ≤ length d) where
  head-size : length (take at d ++ b) ≡ at + length b
  head-size = let n : length (take at d) ≡ at = length-take-le at d (omega arith) in length-append (take at d) b ∙ omega arith

  pub laid-length : length (laid d at b) ≡ length d
  laid-length = let n : length (take at d ++ b) ≡ at + length b = head-size in length-append (take at d ++ b) (drop (at + length b) d) ∙ simp length-drop (omega arith)

  -- one after the other
  pub laid-laid : (c : List ℕ) → at + length b + length c ≤ length d → laid (laid d at b) (at + length b) c ≡ laid d at (b ++ c)
  laid-laid c g =
      let x : take (at + length b) (laid d at b) ≡ take at d ++ b = take_at (take at d ++ b) (drop (at + length b) d) (at + length b) head-size in
      let o : at + length b + length c ≡ at + length (b ++ c) = (let w : length (b ++ c) ≡ length b + length c = length-append b c in omega arith) in
      let y : drop (at + length b + length c) (laid d at b) ≡ drop (at + length (b ++ c)) d =
      sym (drop-drop (length c) (at + length b) (laid d at b))
      ∙ ap (drop (length c)) (drop_at (take at d ++ b) (drop (at + length b) d) (at + length b) head-size)
      ∙ drop-drop (length c) (at + length b) d
      ∙ ap (λ (n : ℕ). drop n d) o in
      rw (x, y) (ap (λ (z : List ℕ). z ++ drop (at + length (b ++ c)) d) (append_assoc (take at d) b c))

pub put-append : {A : Type 0} (f : A → List ℕ) (l m : List A) → put_all f (l ++ m) ≡ put_all f l ++ put_all f m
unfolding put_all
put-append f [] m = refl
put-append f (a ∷ l) m = ap (λ (x : List ℕ). f a ++ x) (put-append f l m) ∙ sym (append_assoc (f a) (put_all f l) (put_all f m))
