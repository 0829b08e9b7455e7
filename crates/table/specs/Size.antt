-- How many bytes the parts of an image take.
use Rattle.std.specs.Prelude.{ℕ, ◌+◌, ◌*◌, List, [], ◌∷◌, length}
use Rattle.table.specs.Table.{Pair, PitchEntry, m_partials}

-- the sizes of several things together
unfoldable pub total : {A : Type 0} → (A → ℕ) → List A → ℕ
total f [] = 0
total f (a ∷ l) = f a + total f l

-- a pair: the key's length, the key, the value
abbrev pub pair_size : Pair → ℕ
pair_size p = 8 + length p.key

-- an entry: seven numbers of four bytes, its partial frequencies and coefficients, and its pairs
abbrev pub entry_size : PitchEntry → ℕ
entry_size e = 28 + 4 * m_partials e + 4 * length e.coefficients + total pair_size e.metadata
