-- Reading: questions 1 to 7 over a whole image. 2 to 6 come in file order, 7 after all entries. Bytes after the last entry are ignored.
use Rattle.std.specs.Prelude.{ℕ, List, [], length, leb}
use Rattle.wire.specs.Parse.{refusal, Parsed, ok, refused, Parser, pure, ◌>>=◌, ◌>>◌, require}
use Rattle.table.specs.Table.{CoeffTable, PitchEntry}
use Rattle.table.specs.Image.{header, entries}
use Rattle.table.specs.Span.{ask_spans}

abbrev pub image_length : Parser ℕ
image_length s at = ok (length s) at

-- question 1: is the image at most 65,536 bytes?
abbrev pub max_image : ℕ
max_image = 65536

abbrev pub table : Parser CoeffTable
table = do
  z ← image_length
  require (leb z max_image) (refusal 1 0 0)
  h ← header
  es ← entries h.count
  ask_spans es
  pure (record { version = h.version; name = h.name; entries = es })

-- an image's table and the end of its last entry, or the refusal
unfoldable pub decode : List ℕ → Parsed CoeffTable
decode s = table s 0

-- the entries and the name of an image's table; of a refused image, none
abbrev pub entries_of : Parsed CoeffTable → List PitchEntry
entries_of (ok t end) = t.entries
entries_of (refused r) = []

abbrev pub name_of : Parsed CoeffTable → List ℕ
name_of (ok t end) = t.name
name_of (refused r) = []
