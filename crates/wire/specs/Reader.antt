-- A reader: the image, and the position that it has come to. A field that was read moves it past the field, a refusal leaves it where it
-- was; a string is two fields, its length and its bytes.
use Rattle.std.specs.Prelude.{ℕ, ◌≡◌, Result, Ok, Err}
use Rattle.wire.specs.declared.cursor.WireError.{WireError}
use Rattle.wire.specs.declared.reader.Reader.{Reader}
use Rattle.wire.specs.Parse.{Parsed, ok, refused, Parser}
use Rattle.wire.specs.Cursor.{Place, next_position, string, string_end, wire_refusal}

-- the reader of the same image at another position
abbrev pub moved_to : Reader → ℕ → Reader
moved_to r n = record { buf = r.buf; pos = n }

-- what a reader answers, and the position that it is then at
abbrev pub answer_at : {A : Type 0} → Result A WireError → ℕ → Parsed A
answer_at (Ok a) at = ok a at
answer_at (Err e) at = refused (wire_refusal e)

-- what was read at the reader's position is its answer, and the reader is now at the position after it
abbrev pub Passed : {A : Type 0} → Parsed A → Result A WireError → Reader → Reader → Type 0
Passed p answer before next = (answer_at answer next.pos ≡ p) × (next ≡ moved_to before (next_position p before.pos))

-- a field was asked of the reader: the answer is that at its position, and the reader is now at the position after it
abbrev pub Reads : {A : Type 0} → Parser A → Result A WireError → Reader → Reader → Type 0
Reads p answer before next = Passed (p before.buf.now before.pos) answer before next

-- a string was asked of it: the answer, and the reader is now at the position that the reading came to
abbrev pub ReadsString : Result Place WireError → Reader → Reader → Type 0
ReadsString answer before next = (answer_at answer next.pos ≡ string before.buf.now before.pos) × (next ≡ moved_to before (string_end
    before.buf.now before.pos))
