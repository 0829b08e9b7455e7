-- Each answer of the wire has numbers and values of its own: what the contracts say of an answer fixes it. Assumes nothing.
use Prim.Native.Nat.{ℕ}
use mathlib.Core.Path.{◌≡◌, refl, ap, ◌∙◌}
use native.Mathlib.Omega.{arith}
use Rattle.std.specs.Prelude.{Result, Ok, Err}
use Rattle.wire.specs.declared.cursor.Cursor.{Cursor}
use Rattle.wire.specs.declared.cursor.WireError.{WireError}
use Rattle.wire.specs.declared.cursor.Read.{Read}
use Rattle.wire.specs.declared.cursor.StringError.{StringError}
use Rattle.wire.specs.Parse.{Parsed, ok, refused}
use Rattle.wire.specs.Cursor.{Place, wire_refusal, read_parsed, string_parsed, reached}
use Rattle.wire.specs.Reader.{answer_at}

abbrev pub cursor : ℕ → Cursor
cursor n = record { at = n }

abbrev pub read_at : {A : Type 0} → A → ℕ → Read A
read_at a n = record { value = a; next = cursor n }

abbrev pub string_error : WireError → ℕ → StringError
string_error e n = record { error = e; reached = cursor n }

-- the number of a refusal; 0 of a value
abbrev pub number : {A : Type 0} → Parsed A → ℕ
number (ok a next) = 0
number (refused r) = r.number

pub error-apart : {A : Type 0} (a b : WireError) → ◌≡◌ {A = Parsed A} (refused (wire_refusal a)) (refused (wire_refusal b)) → a ≡ b
error-apart WireError.UnexpectedEof WireError.UnexpectedEof e = refl
error-apart WireError.UnexpectedEof WireError.BadUtf8 e = let z : ◌≡◌ {A = ℕ} 2 5 = ap number e in absurd (omega arith)
error-apart WireError.BadUtf8 WireError.UnexpectedEof e = let z : ◌≡◌ {A = ℕ} 5 2 = ap number e in absurd (omega arith)
error-apart WireError.BadUtf8 WireError.BadUtf8 e = refl

pub read-apart : {A : Type 0} (a b : Result (Read A) WireError) → read_parsed a ≡ read_parsed b → a ≡ b
read-apart {A} (Ok r) (Ok q) e =
    let p : r.value ≡ q.value = cc in
    let n : r.next.at ≡ q.next.at = cc in
    ap (λ (v : A). Ok (read_at v r.next.at)) p ∙ ap (λ (k : ℕ). Ok (read_at q.value k)) n
read-apart (Ok r) (Err f) e = cc
read-apart (Err f) (Ok q) e = cc
read-apart (Err f) (Err g) e = ap Err (error-apart f g e)

-- of what a reader answers at a position
pub answer-apart : {A : Type 0} (a b : Result A WireError) (at : ℕ) → answer_at a at ≡ answer_at b at → a ≡ b
answer-apart {A} (Ok v) (Ok w) at e = let p : v ≡ w = cc in ap (λ (x : A). Ok x) p
answer-apart (Ok v) (Err f) at e = cc
answer-apart (Err f) (Ok v) at e = cc
answer-apart (Err f) (Err g) at e = ap Err (error-apart f g e)

pub string-apart : (a b : Result (Read Place) StringError) → string_parsed a ≡ string_parsed b → reached a ≡ reached b → a ≡ b
string-apart (Ok r) (Ok q) e f =
    let p : r.value ≡ q.value = cc in
    ap (λ (v : Place). Ok (read_at v r.next.at)) p ∙ ap (λ (k : ℕ). Ok (read_at q.value k)) f
string-apart (Ok r) (Err d) e f = cc
string-apart (Err d) (Ok q) e f = cc
string-apart (Err c) (Err d) e f =
    ap (λ (g : WireError). Err (string_error g c.reached.at)) (error-apart c.error d.error e) ∙ ap (λ (k : ℕ). Err (string_error d.error k)) f
