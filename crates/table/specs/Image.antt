-- The parts of an image in file order, little-endian, with questions 2 to 6 where they are asked.
use Rattle.std.specs.Prelude.{ℕ, ◌+◌, ◌*◌, List, [], ◌∷◌, length, leb, eqb}
use Rattle.wire.specs.Parse.{refusal, ok, Parser, pure, ◌>>=◌, ◌>>◌, require, many}
use Rattle.wire.specs.Cursor.{part, take_at, u16, u32, string}
use Rattle.table.specs.Table.{Pair, PitchEntry, same}

-- the bytes of a part, and of a string
abbrev pub bytes_at : ℕ → ℕ → Parser (List ℕ)
bytes_at start n s at = ok (part s start n) at

abbrev pub text : Parser (List ℕ)
text = do
  p ← string
  bytes_at p.start p.len

-- a u32 count, and as many 32-bit numbers
unfoldable pub counted : Parser (List ℕ)
counted = do
  n ← u32
  many (λ i. u32) 0 n

-- a pair of metadata, and n of them
unfoldable pub pair : Parser Pair
pair = do
  k ← text
  v ← u32
  pure (record { key = k; value = v })

abbrev pub pairs : ℕ → Parser (List Pair)
pairs n = many (λ i. pair) 0 n

-- the entry with index i; at its end question 6: is k × (M + j) its coefficient count, in whole numbers?
unfoldable pub entry : ℕ → Parser PitchEntry
entry i = do
  f ← u32
  st ← u32
  fs ← counted
  k ← u32
  j ← u32
  cs ← counted
  q ← u32
  ms ← pairs q
  require (eqb (k * (length fs + j)) (length cs)) (refusal 6 i 0)
  pure (record { f0_hz = f; stretch = st; partial_freqs = fs; k_channels = k; j_noise = j; coefficients = cs; metadata = ms })

abbrev pub entries : ℕ → Parser (List PitchEntry)
entries n = many entry 0 n

-- the bytes `MSCT`
abbrev pub magic : List ℕ
magic = 0x4D ∷ 0x53 ∷ 0x43 ∷ 0x54 ∷ []

-- what stands before the entries: question 3, is the mark `MSCT`? Question 4, is the version 0 or 1?
pub record Header : Type 0 where
  pub version : ℕ
  pub name : List ℕ
  pub count : ℕ

unfoldable pub header : Parser Header
header = do
  p ← take_at 4
  m ← bytes_at p 4
  require (same m magic) (refusal 3 0 0)
  v ← u16
  require (leb v 1) (refusal 4 v 0)
  t ← text
  n ← u32
  pure (record { version = v; name = t; count = n })
