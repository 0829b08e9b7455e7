-- Laws of the boundary's definitions. Assumes nothing.
use Prim.Native.Nat.{ℕ, zero, suc, ◌+◌, ◌≤◌}
use mathlib.Core.Path.{◌≡◌, refl, ap, sym, ◌∙◌}
use mathlib.Core.List.{List}
use native.Mathlib.Omega.{arith}
use mathlib.Core.Bool.{Bool, true, false, cond}
use lib.Dec.{eqb, leb}
use Rattle.std.specs.Prelude.{Result, Ok, Err}
use lib.ListN.{length, drop, length-drop}
use lib.Seq.{length-take-le}
use Rattle.wire.specs.Parse.{Refusal, refusal, Parsed, ok, refused}
use Rattle.wire.specs.Cursor.{part, string}
use Rattle.wire.proofs.Found.{string-is}
use Rattle.wire.proofs.Many.{went}
use Rattle.table.specs.declared.desk.Kind.{Kind}
use Rattle.table.specs.declared.error.CoeffTableCodecError.{CoeffTableCodecError}
use Rattle.table.specs.Table.{CoeffTable}
use Rattle.table.specs.Image.{text}
use Rattle.table.specs.Span.{consistent, agrees}
use Rattle.table.specs.Decode.{decode, name_of, max_image}
use Rattle.table.specs.Encode.{encode}
use Rattle.table.specs.Name.{name_start}
use Rattle.table.specs.Answer.{refusal_of}
use Rattle.table.proofs.Spelled.{table-parts, header-parts}
use Rattle.table.specs.declared.rewrite.Written.{Written}
use Rattle.merging.specs.declared.tables.MergeError.{MergeError}
use Rattle.merging.specs.Merge.{MergeOutcome, written, first_refused, second_refused, merge_refused, joined, merging}
use Rattle.merging.specs.Answer.{merging_outcome}
use Rattle.merging.proofs.ResultLaws.{merging-apart}
use Rattle.making.specs.Making.{kind_number, kind_channel}
use Rattle.sounder.specs.declared.answer.Answer.{Answer}
use Rattle.sounder.specs.declared.merges.MergeAnswer.{MergeAnswer}
use Rattle.sounder.specs.Answer.{refusal_answer, done, kind_of}
use Rattle.sounder.specs.Merges.{merge_answer}

pub blend-kind : (n c : ℕ) → (n ≡ 0 → ⊥) → kind_of n c ≡ Kind.Blend
blend-kind zero c h = absurd (h refl)
blend-kind (suc n) c h = refl

-- LAW: a kind's numbers lead back to it
pub kind-back : (k : Kind) → kind_of (kind_number k) (kind_channel k) ≡ k
kind-back (Kind.Single c) = refl
kind-back Kind.Blend = refl

-- a string that was read is the part after its length
text-part : (s : List ℕ) (at e : ℕ) (l : List ℕ) → text s at ≡ ok l e → part s (at + 4) (length l) ≡ l
text-part s at e l h =
    went (string s at) (λ p next. ok (part s p.start p.len) next) l e h λ p m g h₁.
    let i = string-is s at m p g in
    let there : p.start + p.len ≤ length s = i.there in
    let start : p.start ≡ at + 4 = i.start in
    let q : part s p.start p.len ≡ l = cc in
    let n : length (part s p.start p.len) ≡ p.len = length-take-le p.len (drop p.start s) (simp length-drop (omega arith)) in
    let o : length l ≡ p.len = sym (ap length q) ∙ n in
    rw (o, ← start) q

-- the name of an accepted image stands from byte 10 on
pub name-part : (s : List ℕ) (t : CoeffTable) (e : ℕ) → decode s ≡ ok t e → part s 10 (length t.name) ≡ t.name
name-part s t e h =
    table-parts s t e h λ d at es p.
    header-parts s d at p.head λ m q.
    rw p.whole (text-part s 6 m d.name q.name)

pub name-held : (s : List ℕ) → part s (name_start (decode s)) (length (name_of (decode s))) ≡ name_of (decode s)
name-held s = go (decode s) refl
  where
    go : (p : Parsed CoeffTable) → decode s ≡ p → part s (name_start p) (length (name_of p)) ≡ name_of p
    go (ok t e) h = name-part s t e h
    go (refused r) h = refl

-- no refusal has the numbers of an accepted call
numbered : (e : CoeffTableCodecError) → (refusal_of e).number ≡ 0 → ⊥
numbered CoeffTableCodecError.TooLong h = absurd (omega (arith, h))
numbered CoeffTableCodecError.UnexpectedEof h = absurd (omega (arith, h))
numbered CoeffTableCodecError.BadMagic h = absurd (omega (arith, h))
numbered (CoeffTableCodecError.UnsupportedVersion v) h = absurd (omega (arith, h))
numbered CoeffTableCodecError.BadUtf8 h = absurd (omega (arith, h))
numbered (CoeffTableCodecError.MalformedEntry i) h = absurd (omega (arith, h))
numbered (CoeffTableCodecError.InconsistentNoiseBandSpan f i) h = absurd (omega (arith, h))

pub refused-apart : (e : CoeffTableCodecError) (a b : ℕ) → refusal_answer (refusal_of e) ≡ done a b → ⊥
refused-apart e a b h = numbered e (ap (λ (x : Answer). x.number) h)

-- ---- a merge's answers, as they cross
abbrev outcome_of : MergeAnswer → MergeOutcome
outcome_of m =
    let r = refusal m.answer.number m.answer.first m.answer.second in
    cond (eqb m.image 1) (first_refused r)
    (cond (eqb m.image 2) (second_refused r) (cond (eqb m.answer.number 0) (written m.answer.first m.answer.second) (merge_refused r)))

outcome-back : (m : Result Written MergeError) → outcome_of (merge_answer (merging_outcome m)) ≡ merging_outcome m
outcome-back (Ok w) = refl
outcome-back (Err (MergeError.First e)) = refl
outcome-back (Err (MergeError.Second e)) = refl
outcome-back (Err MergeError.InconsistentSpans) = refl
outcome-back (Err MergeError.TooLong) = refl
outcome-back (Err MergeError.TargetTooShort) = refl

-- LAW: no two share number, values and image
pub merge-answers-apart : (a b : Result Written MergeError) → merge_answer (merging_outcome a) ≡ merge_answer (merging_outcome b) → a ≡ b
merge-answers-apart a b e = merging-apart a b (sym (outcome-back a) ∙ ap outcome_of e ∙ outcome-back b)

-- LAW: which image an answer speaks of, in the header's numbers: 1 where the first is refused, 2 where the second is, else 0
pub image-first : (r : Refusal) (q : Parsed CoeffTable) (n : ℕ) → merge_answer (merging (refused r) q n) ≡ record { answer = refusal_answer r; image = 1 }
image-first r q n = refl

pub image-second : (t : CoeffTable) (e : ℕ) (r : Refusal) (n : ℕ) → merge_answer (merging (ok t e) (refused r) n) ≡ record { answer = refusal_answer r; image = 2 }
image-second t e r n = refl

pub image-none : (t u : CoeffTable) (e f n : ℕ) → (merge_answer (merging (ok t e) (ok u f) n)).image ≡ 0
image-none t u e f n = asked (agrees (consistent (joined t u).entries)) (leb size max_image) (leb size n)
  where
    size : ℕ
    size = length (encode (joined t u))

    asked : (a b c : Bool) → (merge_answer
        (cond a (cond b (cond c (written (length (joined t u).entries) size) (merge_refused (refusal 23 0 0))) (merge_refused (refusal 22 0 0))) (merge_refused (refusal 21 0 0)))).image ≡ 0
    asked false b c = refl
    asked true false c = refl
    asked true true false = refl
    asked true true true = refl
