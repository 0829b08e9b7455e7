-- The image that the code writes: of all that the contract allows, the one with the entries in the stable order. Cited by private functions
-- only.
use Rattle.std.specs.Prelude.{ℕ, ◌+◌, ◌≤◌, List, [], ◌++◌, length, take, drop}
use Rattle.wire.specs.Parse.{Parsed, ok, refused}
use Rattle.table.specs.Table.{PitchEntry, CoeffTable}
use Rattle.table.specs.Image.{magic}
use Rattle.table.specs.Decode.{max_image}
use Rattle.table.specs.Encode.{put_u16, put_u32, put_str, encode}
use Rattle.merging.specs.Order.{pitch_rank}
use Rattle.merging.specs.Merge.{with_entries}
use Rattle.merging.specs.inner.Sorted.{in_order}

-- a list with some bytes laid over it from a position on
abbrev pub laid : List ℕ → ℕ → List ℕ → List ℕ
laid d at b = take at d ++ b ++ drop (at + length b) d

-- what stands before the entries: the mark, version 1, a name, an entry count
abbrev pub head_of : List ℕ → ℕ → List ℕ
head_of l n = magic ++ put_u16 1 ++ put_str l ++ put_u32 n

-- the entries of both in pitch order, those of equal pitch as they stand in the joined list
abbrev pub stable : CoeffTable → CoeffTable → List PitchEntry
stable t u = in_order pitch_rank (t.entries ++ u.entries)

abbrev pub stable_image : Parsed CoeffTable → Parsed CoeffTable → List ℕ
stable_image (ok t e) (ok u f) = encode (with_entries t (stable t u))
stable_image (ok t e) (refused r) = []
stable_image (refused r) u = []

-- a target with it
abbrev pub stable_over : Parsed CoeffTable → Parsed CoeffTable → List ℕ → List ℕ
stable_over p q before = stable_image p q ++ drop (length (stable_image p q)) before

-- it is an image, and n bytes hold it
abbrev pub ResultFits : Parsed CoeffTable → Parsed CoeffTable → ℕ → Type 0
ResultFits p q n = (length (stable_image p q) ≤ max_image) × (length (stable_image p q) ≤ n)
