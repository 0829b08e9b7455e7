-- The straight line between two entries: a is the wave of the lent list at k, b that at k + 1.
use Rattle.std.proofs.Common.{◌≡◌, ℕ, ◌+◌, ◌≤◌, false, T, List, ℤ, pos, negsuc, ◌-ℤ◌, nat_abs, sym, ap, ◌∙◌, subst, le_trans, le_of_eq, w32, SFits, to_z, of_z}
use lib.Ieee.{Float, fin, binary32, add, mul, sub, of_int, in_float}
use mir.ValLaws.{to_z-of_z}
use Rattle.float.proofs.Ints.{abs-minus, abs-sfits, abs-in-float}
use Rattle.filters.specs.Wave.{place_of, cell_of, wave_in, line_in}
use Rattle.filters.proofs.Quarters.{wider, wave-abs}

abbrev back : ℤ → ℤ
back z = to_z w32 (of_z w32 z)

module _ (xs : List ℕ) (k : ℕ) (a b : ℤ) (ea : a ≡ wave_in xs k) (eb : b ≡ wave_in xs (k + 1)) where
  size-a : nat_abs a ≤ 8388608
  size-a = le_trans (le_of_eq (ap nat_abs ea)) (wave-abs xs k)

  size-b : nat_abs b ≤ 8388608
  size-b = le_trans (le_of_eq (ap nat_abs eb)) (wave-abs xs (k + 1))

  size-d : nat_abs (b -ℤ a) ≤ 16777216
  size-d = abs-minus b a 8388608 8388608 size-b size-a

  read_a : back a ≡ a
  read_a = to_z-of_z w32 a (abs-sfits a (wider (nat_abs a) size-a))

  read-b : back b ≡ b
  read-b = to_z-of_z w32 b (abs-sfits b (wider (nat_abs b) size-b))

  diff : back b -ℤ back a ≡ b -ℤ a
  diff = ap (λ (z : ℤ). z -ℤ back a) read-b ∙ ap (λ (z : ℤ). b -ℤ z) read_a

  pub diff-fits : SFits w32 (back b -ℤ back a)
  diff-fits = subst (λ (z : ℤ). SFits w32 z) (sym diff) (abs-sfits (b -ℤ a) size-d)

  read-d : back (back b -ℤ back a) ≡ b -ℤ a
  read-d = ap back diff ∙ to_z-of_z w32 (b -ℤ a) (abs-sfits (b -ℤ a) size-d)

  pub a-in-float : T (in_float binary32 (back a))
  a-in-float = subst (λ (z : ℤ). T (in_float binary32 z)) (sym read_a) (abs-in-float a (wider (nat_abs a) size-a))

  pub d-in-float : T (in_float binary32 (back (back b -ℤ back a)))
  d-in-float = subst (λ (z : ℤ). T (in_float binary32 z)) (sym read-d) (abs-in-float (b -ℤ a) size-d)

  abbrev body : Float → ℕ → ℤ → ℤ → Float
  body q n x d = mul binary32 (add binary32 (of_int binary32 x) (mul binary32 (sub binary32 q (of_int binary32 (pos n))) (of_int binary32 d))) (fin false 1 (negsuc 22))

  pub line : (p : Float) → k ≡ cell_of p → body (place_of p) k (back a) (back (back b -ℤ back a)) ≡ line_in xs p
  unfolding line_in
  line p e =
      let q = place_of p in
      ap (λ (z : ℤ). body q k z (back (back b -ℤ back a))) (read_a ∙ ea)
      ∙ ap (λ (z : ℤ). body q k (wave_in xs k) z) (read-d ∙ ap (λ (z : ℤ). z -ℤ a) eb ∙ ap (λ (z : ℤ). wave_in xs (k + 1) -ℤ z) ea)
      ∙ ap (λ (n : ℕ). body q n (wave_in xs n) (wave_in xs (n + 1) -ℤ wave_in xs n)) e
