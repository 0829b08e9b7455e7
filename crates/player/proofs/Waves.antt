-- The line in a cell of the table of 1025 floats: the cell as a float, where the line starts, how far it rises, and the value on it.
use mathlib.Core.Path.{◌≡◌, refl, sym, ap, ◌∙◌, subst}
use mathlib.Core.Logic.{◌⊎◌, inl, inr}
use mathlib.Core.List.{List}
use mathlib.Core.Bool.{false}
use Prim.Native.Nat.{ℕ, ◌+◌, ◌≤◌, ◌<◌}
use native.Mathlib.Nat.{le_trans, le_of_eq, le_of_lt, mul_comm, mul-one, div-le_of_le-mul, eq-or-lt_of_le}
use native.Mathlib.Omega.{arith}
use lib.Dec.{T, lit≤, lit<}
use lib.IntN.{pos}
use lib.ListN.{length, get_or, set}
use lib.Seq.{get_or-set_same, get_or-set_other}
use lib.Ieee.{Float, nan, fin, binary32, round, of_int, to_unsigned, in_unsigned, fits, sub}
use lib.Ieee.Back.{unsigned_back}
use lib.Ieee.Positive.{num, den}
use Rattle.float.specs.inner.Range.{Within}
use Rattle.float.proofs.Within.{mul-within}
use Rattle.float.proofs.Compare.{below-within}
use Rattle.float.proofs.Fraction.{whole_is, widen}
use Rattle.float.proofs.Ints.{abs-in-float}
use Rattle.player.specs.inner.Columns.{Filled}
use Rattle.player.specs.inner.Ranges.{Phase, AllPhases}
use Rattle.wave_table.specs.Wave.{Waves}
use Rattle.filters.specs.Wave.{place_of, cell_of, rest_of, sine_of}
use Rattle.player.specs.inner.Sines.{cell_float, index_of, cell_start, cell_rise, line_at, Cell, AllCells}
use Rattle.wave_table.proofs.Alike.{rise-exact}
use Rattle.filters.proofs.SineLaws.{cell-lt}

-- ---- the place of a phase, and its cell, whatever the phase's format
place-to-1024 : (p : Float) → Phase p → Within 1024 1 (place_of p)
unfolding round
place-to-1024 p h =
    mul-within binary32 p (fin false 1 (pos 10)) 1 1 1024 1 1024 1 (lit< tt) (lit< tt) (lit< tt) (refl, refl) (below-within 1 1 p h) (record { plain-is = tt; upper = lit≤ tt }) (lit≤ tt)

-- small enough for `floor`
pub place-small : (p : Float) → Phase p → Within 1048577 1 (place_of p)
place-small p h = widen 1024 1048577 (place_of p) (lit≤ tt) (place-to-1024 p h)

cell-le : (p : Float) → Phase p → cell_of p ≤ 1024
cell-le p h =
    let q = place_of p in
    le_trans (le_of_eq (whole_is 64 q (lit≤ tt) (widen 1024 16777216 q (lit≤ tt) (place-to-1024 p h))))
    (div-le_of_le-mul (den q) (le_trans (le_of_eq (sym (mul-one (num q)))) (le_trans (place-to-1024 p h).upper (le_of_eq (mul_comm 1024 (den q))))))

-- ---- a whole number up to 1024 as a float, and back
module _ (n : ℕ) (h : n ≤ 1024) where
  abbrev there : T (in_unsigned binary32 32 (of_int binary32 (pos n))) × (to_unsigned 32 (of_int binary32 (pos n)) ≡ n)
  there = unsigned_back binary32 32 n (abs-in-float (pos n) (omega arith)) (omega arith)

  pub index_is : index_of (of_int binary32 (pos n)) ≡ n
  index_is = there.1

pub cell-is : (n : ℕ) → n < 1024 → Cell (of_int binary32 (pos n))
cell-is n h = record { below = subst (λ (k : ℕ). k < 1024) (sym (index_is n (le_of_lt h))) h; whole = (there n (le_of_lt h)).0 }

-- the cell of a phase
pub phase-cell : (p : Float) → T (fits binary32 p) → Phase p → Cell (cell_float p)
phase-cell p t h = cell-is (cell_of p) (cell-lt p t h)

-- ---- a column of cells, one turn of a loop at a time
pub cells-none : (xs : List Float) → AllCells xs 0
cells-none xs = record { at = λ i h. absurd (none_below i h) }
  where
    none_below : (i : ℕ) → i < 0 → ⊥
    none_below i h = omega arith

pub cells-more : (xs : List Float) (n : ℕ) (y : Float) → n < length xs → AllCells xs n → Cell y → AllCells (set xs n y) (n + 1)
cells-more xs n y l h c = record { at = λ i k. go i (eq-or-lt_of_le (last i n k)) }
  where
    last : (i n : ℕ) → i < n + 1 → i ≤ n
    last i n k = omega arith

    less : (i n : ℕ) → i < n → i ≡ n → ⊥
    less i n k q = omega arith

    go : (i : ℕ) → (i ≡ n) ⊎ (i < n) → Cell (get_or (set xs n y) i nan)
    go i (inl q) = subst Cell (sym (ap (λ (j : ℕ). get_or (set xs n y) j nan) q ∙ get_or-set_same xs n y nan l)) c
    go i (inr k) = subst Cell (sym (get_or-set_other xs n i y nan (less i n k))) (h.at i k)

pub cells-full : (xs : List Float) (i n : ℕ) → i ≡ n → AllCells xs i → AllCells xs n
cells-full xs i n e h = subst (λ (k : ℕ). AllCells xs k) e h

-- ---- the line from the table's entry k
module _ (w : List Float) (t : Waves w) (k : ℕ) (h : k < 1024) where
  pub start_is : get_or w k nan ≡ cell_start k
  start_is = t.entry k (omega arith)

  pub rise-is : sub binary32 (get_or w (k + 1) nan) (get_or w k nan) ≡ cell_rise k
  rise-is =
      ap (λ (z : Float). sub binary32 z (get_or w k nan)) (t.entry (k + 1) (omega arith))
      ∙ ap (λ (z : Float). sub binary32 (cell_start (k + 1)) z) start_is
      ∙ rise-exact k h

-- S of a phase, by its cell as a float
pub sine-is : (p : Float) → Phase p → line_at (cell_start (index_of (cell_float p))) (rest_of p) (cell_rise (index_of (cell_float p))) ≡ sine_of p
unfolding sine_of
sine-is p h = ap (λ (k : ℕ). line_at (cell_start k) (rest_of p) (cell_rise k)) (index_is (cell_of p) (cell-le p h))

-- a column of them
pub sines-filled : (ps cells rests starts rises sines : List Float) (m : ℕ) → AllPhases ps m → Filled cells (λ i. cell_float (get_or ps i nan)) m → Filled rests (λ i. rest_of (get_or ps i nan)) m
    → Filled starts (λ i. cell_start (index_of (get_or cells i nan))) m → Filled rises (λ i. cell_rise (index_of (get_or cells i nan))) m
    → Filled sines (λ i. line_at (get_or starts i nan) (get_or rests i nan) (get_or rises i nan)) m → Filled sines (λ i. sine_of (get_or ps i nan)) m
sines-filled ps cells rests starts rises sines m P C R S D L = record {
  at = λ i h. L.at i h
      ∙ ap (λ (z : Float). line_at z (get_or rests i nan) (get_or rises i nan)) (S.at i h)
      ∙ ap (λ (z : Float). line_at (cell_start (index_of (get_or cells i nan))) (get_or rests i nan) z) (D.at i h)
      ∙ ap (λ (z : Float). line_at (cell_start (index_of z)) (get_or rests i nan) (cell_rise (index_of z))) (C.at i h)
      ∙ ap (λ (z : Float). line_at (cell_start (index_of (cell_float (get_or ps i nan)))) z (cell_rise (index_of (cell_float (get_or ps i nan))))) (R.at i h)
      ∙ sine-is (get_or ps i nan) (P.at i h);
}
