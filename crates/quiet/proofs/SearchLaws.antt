-- Laws about the first window that passes a test.
use Rattle.std.proofs.Common.{◌≡◌, ℕ, ◌<◌, ◌≤◌, Bool, true, false, not, List, length, get_or, Some, None, refl, ◌∙◌, arith}
use Rattle.std.specs.List.{position, position_or_len}
use Rattle.std.proofs.lemmas.Bool.Decides.{nat_tests}
use Rattle.std.proofs.lemmas.List.Recursion.{is_position_or_len}
use Rattle.std.proofs.lemmas.List.Sums.{position_or_len_is, fails_before_first, prefix_len-le-length}
use Rattle.quiet.specs.declared.plan.Window.{Window}
use Rattle.quiet.specs.Plan.{first_where}

-- LAW: the first that passes is where the library's search finds it; how many there are where it finds none
pub first-is-position : (test : Window → Bool) (l : List Window) → first_where test l ≡ position_or_len test l
unfolding first_where
first-is-position test l = is_position_or_len (first_where test) test refl (λ v vs. grind arith) l

pub first-at-most : (test : Window → Bool) (l : List Window) → first_where test l ≤ length l
first-at-most test l = rw first-is-position (prefix_len-le-length (λ v. not (test v)) l)

-- what is found
pub first_found :
    (test : Window → Bool) (l : List Window) (i : ℕ) → position test l ≡ Some i → (first_where test l ≡ i) × (i < length l)
first_found test l i e = let k = first-is-position test l in (grind (arith, nat_tests), grind (arith, nat_tests))

-- none is
pub first-none : (test : Window → Bool) (l : List Window) → position test l ≡ None → first_where test l ≡ length l
first-none test l e = let k = first-is-position test l in let m = first-at-most test l in grind (arith, nat_tests)

-- ---- what the first that passes is, without a word of how it is found
module _ (test : Window → Bool) (d : Window) where
  -- window i passes, and none before it: it is the first
  pub first-is :
      (l : List Window) (i : ℕ) → i < length l → test (get_or l i d) ≡ true → ((j : ℕ) → j < i → test (get_or l j d) ≡ false)
      → first_where test l ≡ i
  first-is l i h t b = first-is-position test l ∙ position_or_len_is test l i d (omega arith) b (λ _. t)

  -- none passes
  pub first-is-none : (l : List Window) → ((j : ℕ) → j < length l → test (get_or l j d) ≡ false) → first_where test l ≡ length l
  first-is-none l b = first-is-position test l ∙ position_or_len_is test l (length l) d (omega arith) b (λ h. absurd (omega arith))

  -- and where the first is past the last, none does
  pub none_passes : (l : List Window) (j : ℕ) → length l ≤ first_where test l → j < length l → test (get_or l j d) ≡ false
  none_passes l j h m = let k = first-is-position test l in fails_before_first test l j d (omega (arith, k))

  -- one passes, wherever it stands
  pub first-is-some : (l : List Window) (i : ℕ) → i < length l → test (get_or l i d) ≡ true → first_where test l < length l
  first-is-some l i h t = grind (arith, none_passes)
