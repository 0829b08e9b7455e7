-- Laws of equal byte lists. Assumes nothing.
use Prim.Native.Nat.{ℕ}
use mathlib.Core.Path.{◌≡◌, refl, sym, ap, ◌∙◌}
use mathlib.Core.List.{List, [], ◌∷◌}
use mathlib.Core.Bool.{Bool, true, false, not, cond, ◌&&◌}
use lib.Dec.{eqb}
use lib.ListN.{take, drop}
use Rattle.std.specs.Prelude.{nat_eq}
use Rattle.std.specs.Cmp.Lexicographic.{pointwise}
use Rattle.table.specs.Table.{same}

cons : (r : Bool) {p q : Bool} → p ≡ q → (r && p) ≡ cond r q false
cons true e = e
cons false e = refl

-- the library's test of two slices
pub same-is : (xs ys : List ℕ) → pointwise nat_eq xs ys ≡ same xs ys
unfolding same
same-is [] [] = refl
same-is [] (b ∷ ys) = refl
same-is (a ∷ xs) [] = refl
same-is (a ∷ xs) (b ∷ ys) = cons (eqb a b) (same-is xs ys)

-- a part of a slice beside other bytes, by the library's tests
module _ (s part bytes other : List ℕ) (at n : ℕ) (r : Bool) (e : part ≡ take n (drop at s)) (f : bytes ≡ other) where
  is_same : pointwise nat_eq part bytes ≡ same (take n (drop at s)) other
  is_same = rw (← e, ← f) (same-is part bytes)

  pub part-same : r ≡ pointwise nat_eq part bytes → same (take n (drop at s)) other ≡ r
  part-same h = sym (h ∙ is_same)

  pub part-other : r ≡ not (pointwise nat_eq part bytes) → same (take n (drop at s)) other ≡ not r
  part-other h = sym is_same ∙ sym (twice (pointwise nat_eq part bytes)) ∙ ap not (sym h)
    where
      twice : (b : Bool) → not (not b) ≡ b
      twice true = refl
      twice false = refl
