-- Each answer of the table has a number and values of its own: what the contracts say of an answer fixes it. Assumes nothing.
use mathlib.Core.Bool.{cond}
use Prim.Native.Nat.{ℕ}
use mathlib.Core.Path.{◌≡◌, refl, ap, sym, ◌∙◌}
use mathlib.Core.List.{List}
use mathlib.Core.Option.{Option, some, none}
use native.Mathlib.Omega.{arith}
use lib.Dec.{eqb}
use Rattle.wire.specs.Parse.{Refusal, Parsed, ok, refused}
use Rattle.std.specs.Prelude.{Result, Ok, Err, IfOk, Some, None}
use Rattle.std.specs.Prelude.{Option as CodeOption}
use Rattle.table.specs.declared.desk.Desk.{Desk}
use Rattle.table.specs.declared.entry.EntryView.{EntryView}
use Rattle.table.specs.declared.error.CoeffTableCodecError.{CoeffTableCodecError}
use Rattle.table.specs.declared.read.Counts.{Counts}
use Rattle.table.specs.declared.rewrite.Written.{Written}
use Rattle.table.specs.declared.rewrite.RewriteError.{RewriteError}
use Rattle.table.specs.declared.views.Views.{Views}
use Rattle.table.specs.Image.{entry}
use Rattle.table.specs.Decode.{decode}
use Rattle.table.specs.View.{entry_at, view_of, PlacedRead}
use Rattle.table.specs.Answer.{refusal_of, reading_parsed, found_bits, entry_parsed}
use Rattle.table.specs.Desk.{Outcome, desk, refused_by, desk_answer}
use Rattle.table.specs.Lookup.{found_view}
use Rattle.table.specs.Rewrite.{rewriting_parsed}
use Rattle.table.specs.Views.{views_of, views_parsed, ViewsRead}

-- a map that has another one back from it tells its arguments apart
pub apart : {A B : Type 0} (f : A → B) (back : B → A) → ((a : A) → back (f a) ≡ a) → (x y : A) → f x ≡ f y → x ≡ y
apart f back is x y e = sym (is x) ∙ ap back e ∙ is y

-- the error with a number and its values
abbrev pub error_of : Refusal → CoeffTableCodecError
error_of r =
    cond (eqb r.number 1) CoeffTableCodecError.TooLong
    (cond (eqb r.number 3) CoeffTableCodecError.BadMagic
    (cond (eqb r.number 4) (CoeffTableCodecError.UnsupportedVersion r.first)
    (cond (eqb r.number 5) CoeffTableCodecError.BadUtf8
    (cond (eqb r.number 6) (CoeffTableCodecError.MalformedEntry r.first)
    (cond (eqb r.number 7) (CoeffTableCodecError.InconsistentNoiseBandSpan r.first r.second)
    CoeffTableCodecError.UnexpectedEof)))))

pub error-back : (e : CoeffTableCodecError) → error_of (refusal_of e) ≡ e
error-back CoeffTableCodecError.TooLong = refl
error-back CoeffTableCodecError.UnexpectedEof = refl
error-back CoeffTableCodecError.BadMagic = refl
error-back (CoeffTableCodecError.UnsupportedVersion v) = refl
error-back CoeffTableCodecError.BadUtf8 = refl
error-back (CoeffTableCodecError.MalformedEntry i) = refl
error-back (CoeffTableCodecError.InconsistentNoiseBandSpan f i) = refl

pub refusal-apart : (a b : CoeffTableCodecError) → refusal_of a ≡ refusal_of b → a ≡ b
refusal-apart a b e = apart refusal_of error_of error-back a b e

abbrev reading_of : Parsed ℕ → Result Counts CoeffTableCodecError
reading_of (ok n end) = Ok (record { entries = n; end = end })
reading_of (refused r) = Err (error_of r)

reading-back : (r : Result Counts CoeffTableCodecError) → reading_of (reading_parsed r) ≡ r
reading-back (Ok c) = refl
reading-back (Err e) = ap Err (error-back e)

pub reading-apart : (a b : Result Counts CoeffTableCodecError) → reading_parsed a ≡ reading_parsed b → a ≡ b
reading-apart a b e = apart reading_parsed reading_of reading-back a b e

abbrev rewriting_of : Parsed ℕ → Result Written RewriteError
rewriting_of (ok n bytes) = Ok (record { entries = n; bytes = bytes })
rewriting_of (refused r) = cond (eqb r.number 17) (Err RewriteError.TargetTooShort) (Err (RewriteError.Refused (error_of r)))

rewriting-refused : (e : CoeffTableCodecError) → rewriting_of (refused (refusal_of e)) ≡ Err (RewriteError.Refused e)
rewriting-refused CoeffTableCodecError.TooLong = refl
rewriting-refused CoeffTableCodecError.UnexpectedEof = refl
rewriting-refused CoeffTableCodecError.BadMagic = refl
rewriting-refused (CoeffTableCodecError.UnsupportedVersion v) = refl
rewriting-refused CoeffTableCodecError.BadUtf8 = refl
rewriting-refused (CoeffTableCodecError.MalformedEntry i) = refl
rewriting-refused (CoeffTableCodecError.InconsistentNoiseBandSpan f i) = refl

rewriting-back : (r : Result Written RewriteError) → rewriting_of (rewriting_parsed r) ≡ r
rewriting-back (Ok w) = refl
rewriting-back (Err (RewriteError.Refused e)) = rewriting-refused e
rewriting-back (Err RewriteError.TargetTooShort) = refl

pub rewriting-apart : (a b : Result Written RewriteError) → rewriting_parsed a ≡ rewriting_parsed b → a ≡ b
rewriting-apart a b e = apart rewriting_parsed rewriting_of rewriting-back a b e

abbrev found_of : Option ℕ → CodeOption ℕ
found_of (some v) = Some v
found_of none = None

found_back : (f : CodeOption ℕ) → found_of (found_bits f) ≡ f
found_back (Some v) = refl
found_back None = refl

pub found-apart : (a b : CodeOption ℕ) → found_bits a ≡ found_bits b → a ≡ b
found-apart a b e = apart found_bits found_of found_back a b e

abbrev view_found : Option EntryView → CodeOption EntryView
view_found (some v) = Some v
view_found none = None

view-back : (f : CodeOption EntryView) → view_found (found_view f) ≡ f
view-back (Some v) = refl
view-back None = refl

pub entry-found-apart : (a b : CodeOption EntryView) → found_view a ≡ found_view b → a ≡ b
entry-found-apart a b e = apart found_view view_found view-back a b e

abbrev desk_read : Outcome → Result Desk CoeffTableCodecError
desk_read (desk d) = Ok d
desk_read (refused_by r) = Err (error_of r)

desk-back : (r : Result Desk CoeffTableCodecError) → desk_read (desk_answer r) ≡ r
desk-back (Ok d) = refl
desk-back (Err e) = ap Err (error-back e)

pub desk-apart : (a b : Result Desk CoeffTableCodecError) → desk_answer a ≡ desk_answer b → a ≡ b
desk-apart a b e = apart desk_answer desk_read desk-back a b e

-- what entry_at says of its answer fixes it: the meaning fixes the entry or the refusal, and a view is that of its entry at the position
pub entry-read-apart : (s : List ℕ) (at : ℕ) (a b : Result EntryView CoeffTableCodecError) → PlacedRead s at a → PlacedRead s at b → entry_parsed s a ≡ entry_parsed s b → a ≡ b
entry-read-apart s at (Ok v) (Ok w) p q e =
    let x : entry_at s v ≡ entry_at s w = cc in
    ap Ok (p ∙ ap (view_of at) x ∙ sym q)
entry-read-apart s at (Ok v) (Err f) p q e = let z : ◌≡◌ {A = ℕ} 0 1 = cc in absurd (omega arith)
entry-read-apart s at (Err f) (Ok w) p q e = let z : ◌≡◌ {A = ℕ} 0 1 = cc in absurd (omega arith)
entry-read-apart s at (Err f) (Err g) p q e =
    let x : refusal_of f ≡ refusal_of g = cc in
    ap Err (refusal-apart f g x)

pub entry-at-apart : (s : List ℕ) (at index : ℕ) (a b : Result EntryView CoeffTableCodecError) → entry_parsed s a ≡ entry index s at → PlacedRead s at a
    → entry_parsed s b ≡ entry index s at → PlacedRead s at b → a ≡ b
entry-at-apart s at index a b m p n q = entry-read-apart s at a b p q (m ∙ sym n)

-- a reading that kept views
abbrev views_at : ℕ → ℕ → List EntryView → Result Views CoeffTableCodecError
views_at n end views = Ok (record { counts = record { entries = n; end = end }; views = views })

views-read-apart : (a b : Result Views CoeffTableCodecError) (xs : List EntryView) → views_parsed a ≡ views_parsed b
    → IfOk a (λ v. v.views ≡ xs) → IfOk b (λ v. v.views ≡ xs) → a ≡ b
views-read-apart (Ok v) (Ok w) xs e p q =
    let n : v.counts.entries ≡ w.counts.entries = cc in
    let k : v.counts.end ≡ w.counts.end = cc in
    ap (λ (n : ℕ). views_at n v.counts.end v.views) n ∙ ap (λ (k : ℕ). views_at w.counts.entries k v.views) k
    ∙ ap (views_at w.counts.entries w.counts.end) (p ∙ sym q)
views-read-apart (Ok v) (Err f) xs e p q = let z : ◌≡◌ {A = ℕ} 0 1 = cc in absurd (omega arith)
views-read-apart (Err f) (Ok w) xs e p q = let z : ◌≡◌ {A = ℕ} 0 1 = cc in absurd (omega arith)
views-read-apart (Err f) (Err g) xs e p q =
    let x : refusal_of f ≡ refusal_of g = cc in
    ap Err (refusal-apart f g x)

-- what views_of says of its answer fixes it: the counts or the refusal, and the views of an image that is accepted
pub views-apart : (s : List ℕ) (a b : Result Views CoeffTableCodecError) → ViewsRead s a → ViewsRead s b → a ≡ b
views-apart s a b p q = views-read-apart a b (views_of (decode s)) (p.reading ∙ sym q.reading) p.views q.views
