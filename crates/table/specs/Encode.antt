-- The image that a table is written as, field by field: version 1, and nothing after the last entry.
use Rattle.std.specs.Prelude.{ℕ, ◌/◌, ◌%◌, List, [], ◌∷◌, ◌++◌, length}
use Rattle.table.specs.Table.{Pair, PitchEntry, CoeffTable}
use Rattle.table.specs.Image.{magic}

-- little-endian numbers; of a larger number the low bits
abbrev pub put_u16 : ℕ → List ℕ
put_u16 n = n % 256 ∷ n / 256 % 256 ∷ []

abbrev pub put_u32 : ℕ → List ℕ
put_u32 n = n % 256 ∷ n / 256 % 256 ∷ n / 65536 % 256 ∷ n / 16777216 % 256 ∷ []

-- things one after the other
unfoldable pub put_all : {A : Type 0} → (A → List ℕ) → List A → List ℕ
put_all f [] = []
put_all f (a ∷ l) = f a ++ put_all f l

-- a string, and numbers, with their count before them
abbrev pub put_str : List ℕ → List ℕ
put_str l = put_u32 (length l) ++ l

abbrev pub put_counted : List ℕ → List ℕ
put_counted l = put_u32 (length l) ++ put_all put_u32 l

unfoldable pub put_pair : Pair → List ℕ
put_pair p = put_str p.key ++ put_u32 p.value

unfoldable pub put_entry : PitchEntry → List ℕ
put_entry e =
    put_u32 e.f0_hz
    ++ (put_u32 e.stretch
    ++ (put_counted e.partial_freqs
    ++ (put_u32 e.k_channels
    ++ (put_u32 e.j_noise
    ++ (put_counted e.coefficients
    ++ (put_u32 (length e.metadata)
    ++ put_all put_pair e.metadata))))))

unfoldable pub encode : CoeffTable → List ℕ
encode t =
    magic
    ++ (put_u16 1
    ++ (put_str t.name
    ++ (put_u32 (length t.entries)
    ++ put_all put_entry t.entries)))
