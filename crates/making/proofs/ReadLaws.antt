-- What an image's reading says to a making. Assumes nothing.
use Prim.Native.Nat.{ℕ, zero, suc, ◌≤◌, ◌<◌}
use mathlib.Core.Path.{◌≡◌, refl, ap, sym, ◌∙◌}
use mathlib.Core.List.{List, []}
use mathlib.Core.Bool.{false}
use native.Mathlib.Omega.{arith}
use lib.ListN.{length, take}
use lib.Dec.{eqb}
use lib.Ieee.{Float}
use borrow.Author.Tests.{lt-leb}
use Rattle.std.specs.Prelude.{Ok, Err}
use Rattle.wire.specs.Parse.{refusal, ok, refused}
use Rattle.table.specs.declared.desk.Kind.{Kind}
use Rattle.table.specs.declared.entry.EntryView.{EntryView}
use Rattle.table.specs.declared.views.Views.{Views}
use Rattle.table.specs.declared.error.CoeffTableCodecError.{CoeffTableCodecError}
use Rattle.table.specs.Table.{PitchEntry, CoeffTable}
use Rattle.table.specs.Answer.{refusal_of}
use Rattle.table.specs.Decode.{decode}
use Rattle.table.specs.Views.{ViewsRead}
use Rattle.making.specs.inner.Views.{viewed}
use Rattle.table.proofs.ReadLaws.{accepted-table, refused-is}
use Rattle.table.proofs.ViewsLaws.{views-lead}
use Rattle.voice.specs.Question as question
use Rattle.making.specs.Making.{Making, limits_ok, table_question, make_of, make_question, fresh_voice, blank_voice}
use Rattle.making.proofs.CoeffLaws.{refused-number}

-- an image that is read: its table, and its entries as the views have them
pub table-read : {G : Type 0} (s : List ℕ) (v : Views) → ViewsRead s (Ok v)
    → ((t : CoeffTable) → decode s ≡ ok t v.counts.end → length t.entries ≡ v.counts.entries → (v.counts.entries ≤ 16 → viewed s (take v.counts.entries v.views) ≡ t.entries) → G) → G
table-read s v r k =
    let n = v.counts.entries in
    accepted-table s n v.counts.end (sym r.reading) λ t p l.
    k t p l λ h. ap (λ (views : List EntryView). viewed s (take n views)) r.views ∙ views-lead s t v.counts.end n p l h

pub table-refused : (s : List ℕ) (e : CoeffTableCodecError) → ViewsRead s (Err e) → decode s ≡ refused (refusal_of e)
table-refused s e r = refused-is s (refusal_of e) (sym r.reading)

-- more than 16 entries
pub too_many : (k : Kind) (es : List PitchEntry) (rate : Float) (centres : List Float) → 16 < length es → table_question k es rate centres ≡ refusal 8 0 0
unfolding table_question limits_ok
too_many k es rate centres h = rw (lt-leb (length es) 16 h) refl

-- a refused making leaves what was given
pub given_back : {A : Type 0} (q : ℕ) (a b : A) → eqb q 0 ≡ false → question.accepted q a b ≡ b
given_back zero a b h = let z : ◌≡◌ {A = ℕ} 0 1 = cc in absurd (omega arith)
given_back (suc q) a b h = refl

pub refused-make : (m : Making) (e : CoeffTableCodecError) → decode m.image ≡ refused (refusal_of e)
    → make_of m ≡ record { refusal = refusal_of e; voice = blank_voice }
unfolding make_of make_question
refused-make m e p = rw (p, given_back (refusal_of e).number (fresh_voice m.kind [] m.rate m.centres) blank_voice (refused-number e)) refl
