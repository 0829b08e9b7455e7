-- A coefficient table, apart from any bytes: what reading an image gives, and what everything above it speaks of.
-- Floats are their 32-bit patterns, so that a NaN keeps its payload; a name and a key are their bytes.
use Rattle.std.specs.Prelude.{ℕ, ◌+◌, ◌*◌, List, [], ◌∷◌, Bool, true, false, cond, length, get_or, ltb, eqb}
use Rattle.std.proofs.Math.Option.{Option, some, none}

-- a pair of the metadata: a key and its value
pub record Pair : Type 0 where
  pub key : List ℕ
  pub value : ℕ

-- one pitch: M partial frequencies, k channels, j noise bands; each channel's row of coefficients has M for the partials, then j for the
-- bands
pub record PitchEntry : Type 0 where
  pub f0_hz : ℕ
  pub stretch : ℕ
  pub partial_freqs : List ℕ
  pub k_channels : ℕ
  pub j_noise : ℕ
  pub coefficients : List ℕ
  pub metadata : List Pair

pub record CoeffTable : Type 0 where
  pub version : ℕ
  pub name : List ℕ
  pub entries : List PitchEntry

-- M, and the width of a row
abbrev pub m_partials : PitchEntry → ℕ
m_partials e = length e.partial_freqs

abbrev pub width : PitchEntry → ℕ
width e = m_partials e + e.j_noise

-- an entry has channel c where c is below its k
abbrev pub has_channel : PitchEntry → ℕ → Bool
has_channel e c = ltb c e.k_channels

-- the coefficient of channel c at a column of its row; 0 where the entry has no such channel or column
unfoldable pub coefficient_at : PitchEntry → ℕ → ℕ → ℕ
coefficient_at e c column =
    cond (has_channel e c) (cond (ltb column (width e)) (get_or e.coefficients (c * width e + column) 0) 0) 0

-- two lists of bytes are the same
unfoldable pub same : List ℕ → List ℕ → Bool
same [] [] = true
same [] (b ∷ ys) = false
same (a ∷ xs) [] = false
same (a ∷ xs) (b ∷ ys) = cond (eqb a b) (same xs ys) false

-- the value of a key: of equal keys the first counts
unfoldable pub metadata_value : List ℕ → List Pair → Option ℕ
metadata_value key [] = none
metadata_value key (p ∷ ps) = cond (same p.key key) (some p.value) (metadata_value key ps)
