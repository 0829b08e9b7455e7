-- A header in the parts that the code reads by themselves: mark and version, then name and entry count. Where a part starts.
-- Cited by private functions only.
use Rattle.std.specs.Prelude.{cond, ℕ, ◌≡◌, List, length, leb, Result, Ok, Err}
use Rattle.wire.specs.declared.cursor.Read.{Read}
use Rattle.wire.specs.Parse.{refusal, Parsed, ok, refused, Parser, pure, ◌>>=◌, ◌>>◌, require}
use Rattle.wire.specs.Cursor.{take_at, u16, u32}
use Rattle.table.specs.declared.error.CoeffTableCodecError.{CoeffTableCodecError}
use Rattle.table.specs.declared.header.HeaderView.{HeaderView}
use Rattle.table.specs.Table.{CoeffTable, same}
use Rattle.table.specs.Image.{bytes_at, text, magic, Header, header}
use Rattle.table.specs.Answer.{refusal_of}
use Rattle.table.specs.Decode.{max_image}

unfoldable pub version : Parser ℕ
version = do
  p ← take_at 4
  m ← bytes_at p 4
  require (same m magic) (refusal 3 0 0)
  v ← u16
  require (leb v 1) (refusal 4 v 0)
  pure v

unfoldable pub header_by : Parser Header
header_by = do
  v ← version
  t ← text
  n ← u32
  pure (record { version = v; name = t; count = n })

abbrev pub version_parsed : Result (Read ℕ) CoeffTableCodecError → Parsed ℕ
version_parsed (Ok v) = ok v.value v.next.at
version_parsed (Err e) = refused (refusal_of e)

-- what a reading begins with: question 1, and the header
unfoldable pub head : List ℕ → Parsed Header
head s = cond (leb (length s) max_image) (header s 0) (refused (refusal 1 0 0))

-- the name of a header starts at byte 10
abbrev pub NamePlaced : Result HeaderView CoeffTableCodecError → Type 0
NamePlaced (Ok h) = h.name.start ≡ 10
NamePlaced (Err e) = Unit

-- the header of an accepted image, or why the image is refused
abbrev pub header_in : Parsed CoeffTable → List ℕ → Parsed Header
header_in (ok t end) s = header s 0
header_in (refused r) s = refused r

-- where a part of a slice of n bytes starts that is asked for at a position: at its start where that is past its end
abbrev pub part_start : ℕ → ℕ → ℕ
part_start n at = cond (leb at n) at 0
