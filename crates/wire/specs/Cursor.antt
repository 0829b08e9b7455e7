-- What stands at a position of the image: little-endian numbers, parts and strings, each with its questions.
-- Every answer of the code is given its value and next position, or its refusal, by a definition here.
use Rattle.std.specs.Prelude.{cond, ℕ, ◌+◌, ◌*◌, List, length, get_or, take, drop, leb, Result, Ok, Err}
use Rattle.wire.specs.declared.cursor.WireError.{WireError}
use Rattle.wire.specs.declared.cursor.Read.{Read}
pub use Rattle.wire.specs.declared.cursor.Place.{Place}
use Rattle.wire.specs.declared.cursor.StringError.{StringError}
use Rattle.wire.specs.Parse.{Refusal, refusal, Parsed, ok, refused, Parser, ◌>>=◌}
use Rattle.wire.specs.Utf8.{utf8}

-- question 2: are the bytes that the field needs there? Question 5: is the string UTF-8?
abbrev pub unexpected_eof : Refusal
unexpected_eof = refusal 2 0 0

abbrev pub bad_utf8 : Refusal
bad_utf8 = refusal 5 0 0

-- the n bytes from a position on
abbrev pub part : List ℕ → ℕ → ℕ → List ℕ
part s at n = take n (drop at s)

-- little-endian numbers
abbrev pub le16 : List ℕ → ℕ → ℕ
le16 s at = get_or s at 0 + 256 * get_or s (at + 1) 0

abbrev pub le32 : List ℕ → ℕ → ℕ
le32 s at = get_or s at 0 + 256 * get_or s (at + 1) 0 + 65536 * get_or s (at + 2) 0 + 16777216 * get_or s (at + 3) 0

-- n bytes: the value is where they start
unfoldable pub take_at : ℕ → Parser ℕ
take_at n s at = cond (leb (at + n) (length s)) (ok at (at + n)) (refused unexpected_eof)

unfoldable pub u16 : Parser ℕ
u16 s at = cond (leb (at + 2) (length s)) (ok (le16 s at) (at + 2)) (refused unexpected_eof)

unfoldable pub u32 : Parser ℕ
u32 s at = cond (leb (at + 4) (length s)) (ok (le32 s at) (at + 4)) (refused unexpected_eof)

-- where a string's bytes stand in the image
abbrev pub place : ℕ → ℕ → Place
place at n = record { start = at; len = n }

-- a string of n bytes, and one with its length before it
unfoldable pub string_of : ℕ → Parser Place
string_of n s at =
    cond (leb (at + n) (length s))
    (cond (utf8 (part s at n)) (ok (place at n) (at + n)) (refused bad_utf8))
    (refused unexpected_eof)

unfoldable pub string : Parser Place
string = do
  n ← u32
  string_of n

-- the position after an answer at a position: past what was read; a field that is refused leaves it
abbrev pub next_position : {A : Type 0} → Parsed A → ℕ → ℕ
next_position (ok a next) at = next
next_position (refused r) at = at

-- the position after a string, read or refused: its length and its bytes are two fields, and each that is there is passed
abbrev pub past_length : Parsed ℕ → List ℕ → ℕ → ℕ
past_length (ok n next) s at = next_position (take_at n s next) next
past_length (refused r) s at = at

unfoldable pub string_end : List ℕ → ℕ → ℕ
string_end s at = past_length (u32 s at) s at

-- ---- the answers of the code
abbrev pub wire_refusal : WireError → Refusal
wire_refusal WireError.UnexpectedEof = unexpected_eof
wire_refusal WireError.BadUtf8 = bad_utf8

-- a part or a number
abbrev pub read_parsed : {A : Type 0} → Result (Read A) WireError → Parsed A
read_parsed (Ok r) = ok r.value r.next.at
read_parsed (Err e) = refused (wire_refusal e)

abbrev pub string_parsed : Result (Read Place) StringError → Parsed Place
string_parsed (Ok r) = ok r.value r.next.at
string_parsed (Err e) = refused (wire_refusal e.error)

-- the position that the reading of a string came to
abbrev pub reached : Result (Read Place) StringError → ℕ
reached (Ok r) = r.next.at
reached (Err e) = e.reached.at
