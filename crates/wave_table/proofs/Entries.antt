-- The table's rule, by one test over all of its entries, and the size of its numbers.
use mathlib.Core.List.{List}
use mathlib.Core.Bool.{Bool}
use Prim.Native.Nat.{ℕ, ◌≤◌, ◌<◌}
use native.Mathlib.Omega.{arith}
use lib.Dec.{T, eqb, eqb→eq, leb, leb→le}
use lib.ListN.{get_or}
use Rattle.wave_table.specs.Wave.{quarter_of, Table}
use Rattle.wave_table.proofs.Every.{all_up_to, up_to-is}

-- entry k is T(k)
unfoldable pub entry_ruled : List ℕ → ℕ → Bool
unfolding quarter_of
entry_ruled xs k = eqb (get_or xs k 0) (quarter_of k)

-- a list of which that holds from 0 to 256 is the table
pub table_is : (xs : List ℕ) → T (all_up_to (entry_ruled xs) 257) → Table xs
unfolding entry_ruled
table_is xs t = record { entry = λ k h. eqb→eq (get_or xs k 0) (quarter_of k) (up_to-is (entry_ruled xs) 257 t k (below k h)) }
  where
    below : (k : ℕ) → k ≤ 256 → k < 257
    below k h = omega arith

-- T(k) is at most 2^23
low : ℕ → Bool
unfolding quarter_of
low k = leb (quarter_of k) 8388608

pub small : (k : ℕ) → k < 257 → quarter_of k ≤ 8388608
unfolding low quarter_of
small k h = leb→le (quarter_of k) 8388608 (up_to-is low 257 tt k h)
