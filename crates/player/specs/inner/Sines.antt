-- The steps of S on a column of phases. S is on the line from W(k) to W(k + 1); a column holds the k of each phase as a float.
use Rattle.std.specs.Prelude.{ℕ, ◌+◌, ◌<◌, List, false, T, pos, negsuc, ◌-ℤ◌, get_or, Float}
use Rattle.std.specs.Float.{nan, fin, binary32}
use Rattle.std.specs.Float.Ieee.{of_int, to_unsigned, in_unsigned}
use Rattle.float.specs.F32.{◌⊕◌, ◌⊗◌}
use Rattle.wave_table.specs.Wave.{wave_of}
use Rattle.filters.specs.Wave.{cell_of}

-- k as a float, and a float back as k
abbrev pub cell_float : Float → Float
cell_float p = of_int binary32 (pos (cell_of p))

abbrev pub index_of : Float → ℕ
index_of x = to_unsigned 32 x

-- a whole number below 1024 as a float
pub record Cell (x : Float) : Type 0 where
  pub below : index_of x < 1024
  pub whole : T (in_unsigned binary32 32 x)

-- the first m of a list are such
pub record AllCells (xs : List Float) (m : ℕ) : Type 0 where
  pub at : (i : ℕ) → i < m → Cell (get_or xs i nan)

-- the line from W(k) to W(k + 1): its start, and its rise, the difference taken in integers
abbrev pub cell_start : ℕ → Float
cell_start k = of_int binary32 (wave_of k)

abbrev pub cell_rise : ℕ → Float
cell_rise k = of_int binary32 (wave_of (k + 1) -ℤ wave_of k)

-- the value at the part r of a line, times 2^-23
abbrev pub line_at : Float → Float → Float → Float
line_at start r rise = (start ⊕ r ⊗ rise) ⊗ fin false 1 (negsuc 22)
