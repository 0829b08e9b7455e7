-- What an accepted making says: the image is read, and every question of its table is answered yes. Every refusal of a reading has a number
-- above 0, so that number 0 is "accepted". Assumes nothing.
use Prim.Native.Nat.{ℕ, zero, suc, ◌+◌, ◌*◌}
use mathlib.Core.Path.{◌≡◌, refl, ap, sym, subst, ◌∙◌}
use mathlib.Core.List.{List, [], ◌∷◌}
use mathlib.Core.Bool.{Bool, true, false, ◌&&◌, cond}
use native.Mathlib.Omega.{arith}
use lib.ListN.{length}
use lib.Dec.{leb, eqb}
use Rattle.wire.specs.Parse.{Refusal, refusal, Parsed, Parser, ok, refused, then, asked, many}
use Rattle.wire.specs.Cursor.{place, part, le16, le32, take_at, u16, u32, string_of, string, unexpected_eof, bad_utf8}
use Rattle.wire.specs.Utf8.{utf8}
use Rattle.table.specs.declared.span.Span.{Span}
use Rattle.table.specs.Table.{PitchEntry, CoeffTable, same}
use Rattle.table.specs.Image.{text, counted, pair, pairs, entry, entries, header, magic}
use Rattle.table.specs.Span.{Verdict, agreed, broken, beside, agree, start, consistent, span_of, float_eq, ruled}
use Rattle.table.specs.Decode.{decode, entries_of}
use Rattle.making.specs.Making.{Making, make_question, question_of}
use Rattle.making.proofs.MakingLaws.{Accepted, table-accepted}

-- a refusal has a number
abbrev Numbered : {A : Type 0} → Parsed A → Type 0
Numbered (ok a at) = Unit
Numbered (refused r) = r.number ≡ 0 → ⊥

then-n : {A B : Type 0} (p : Parsed A) (f : A → ℕ → Parsed B) → Numbered p → ((a : A) (at : ℕ) → Numbered (f a at)) → Numbered (then p f)
then-n (ok a at) f h g = g a at
then-n (refused r) f h g = h

field-n : {A : Type 0} (b : Bool) (v : A) (e : ℕ) → Numbered (cond b (ok v e) (refused unexpected_eof))
field-n true v e = tt
field-n false v e = λ z. absurd (omega arith)

asked-n : (b : Bool) (at n x y : ℕ) → Numbered (asked b at (refusal (suc n) x y))
asked-n true at n x y = tt
asked-n false at n x y = λ z. absurd (omega arith)

take-n : (n : ℕ) (s : List ℕ) (at : ℕ) → Numbered (take_at n s at)
unfolding take_at
take-n n s at = field-n (leb (at + n) (length s)) at (at + n)

u16-n : (s : List ℕ) (at : ℕ) → Numbered (u16 s at)
unfolding u16
u16-n s at = field-n (leb (at + 2) (length s)) (le16 s at) (at + 2)

u32-n : (s : List ℕ) (at : ℕ) → Numbered (u32 s at)
unfolding u32
u32-n s at = field-n (leb (at + 4) (length s)) (le32 s at) (at + 4)

string-of-n : (n : ℕ) (s : List ℕ) (at : ℕ) → Numbered (string_of n s at)
unfolding string_of
string-of-n n s at = go (leb (at + n) (length s)) (utf8 (part s at n))
  where
    go : (b v : Bool) → Numbered (cond b (cond v (ok (place at n) (at + n)) (refused bad_utf8)) (refused unexpected_eof))
    go true true = tt
    go true false = λ z. absurd (omega arith)
    go false v = λ z. absurd (omega arith)

string-n : (s : List ℕ) (at : ℕ) → Numbered (string s at)
unfolding string
string-n s at = then-n (u32 s at) _ (u32-n s at) (λ n m. string-of-n n s m)

text-n : (s : List ℕ) (at : ℕ) → Numbered (text s at)
text-n s at = then-n (string s at) _ (string-n s at) (λ p m. tt)

many-n : {A : Type 0} (p : ℕ → Parser A) (s : List ℕ) → ((i at : ℕ) → Numbered (p i s at)) → (n i at : ℕ) → Numbered (many p i n s at)
unfolding many
many-n p s h zero i at = tt
many-n p s h (suc n) i at = then-n (p i s at) _ (h i at) (λ a m. then-n (many p (i + 1) n s m) _ (many-n p s h n (i + 1) m) (λ l e. tt))

counted-n : (s : List ℕ) (at : ℕ) → Numbered (counted s at)
unfolding counted
counted-n s at = then-n (u32 s at) _ (u32-n s at) (λ n m. many-n (λ i. u32) s (λ i a. u32-n s a) n 0 m)

pair-n : (s : List ℕ) (at : ℕ) → Numbered (pair s at)
unfolding pair
pair-n s at = then-n (text s at) _ (text-n s at) (λ k m. then-n (u32 s m) _ (u32-n s m) (λ v e. tt))

entry-n : (i : ℕ) (s : List ℕ) (at : ℕ) → Numbered (entry i s at)
unfolding entry
entry-n i s at =
    then-n (u32 s at) _ (u32-n s at) λ f m₁.
    then-n (u32 s m₁) _ (u32-n s m₁) λ st m₂.
    then-n (counted s m₂) _ (counted-n s m₂) λ fs m₃.
    then-n (u32 s m₃) _ (u32-n s m₃) λ k m₄.
    then-n (u32 s m₄) _ (u32-n s m₄) λ j m₅.
    then-n (counted s m₅) _ (counted-n s m₅) λ cs m₆.
    then-n (u32 s m₆) _ (u32-n s m₆) λ q m₇.
    then-n (pairs q s m₇) _ (many-n (λ i. pair) s (λ i a. pair-n s a) q 0 m₇) λ ms m₈.
    then-n (asked (eqb (k * (length fs + j)) (length cs)) m₈ (refusal 6 i 0)) _ (asked-n (eqb (k * (length fs + j)) (length cs)) m₈ 5 i 0) λ b e. tt

header-n : (s : List ℕ) (at : ℕ) → Numbered (header s at)
unfolding header
header-n s at =
    then-n (take_at 4 s at) _ (take-n 4 s at) λ p m₁.
    then-n (asked (same (part s p 4) magic) m₁ (refusal 3 0 0)) _ (asked-n (same (part s p 4) magic) m₁ 2 0 0) λ x m₂.
    then-n (u16 s m₂) _ (u16-n s m₂) λ v m₃.
    then-n (asked (leb v 1) m₃ (refusal 4 v 0)) _ (asked-n (leb v 1) m₃ 3 v 0) λ y m₄.
    then-n (text s m₄) _ (text-n s m₄) λ t m₅.
    then-n (u32 s m₅) _ (u32-n s m₅) λ n e. tt

-- question 7's verdict
abbrev Judged : Verdict → Type 0
Judged agreed = Unit
Judged (broken r) = r.number ≡ 0 → ⊥

beside-n : (first : Span) (i : ℕ) (sp : Span) (rest : Verdict) → Judged rest → Judged (beside first i sp rest)
beside-n first i Span.Lone rest h = λ z. absurd (omega arith)
beside-n Span.Neither i Span.Neither rest h = h
beside-n Span.Neither i (Span.Both a b) rest h = λ z. absurd (omega arith)
beside-n (Span.Both x y) i Span.Neither rest h = λ z. absurd (omega arith)
beside-n (Span.Both x y) i (Span.Both a b) rest h = go (float_eq x a && float_eq y b)
  where
    go : (t : Bool) → Judged (cond t rest (broken (refusal 7 0 i)))
    go true = h
    go false = λ z. absurd (omega arith)
beside-n Span.Lone i Span.Neither rest h = λ z. absurd (omega arith)
beside-n Span.Lone i (Span.Both a b) rest h = λ z. absurd (omega arith)

agree-n : (first : Span) (i : ℕ) (es : List PitchEntry) → Judged (agree first i es)
unfolding agree
agree-n first i [] = tt
agree-n first i (e ∷ es) = beside-n first i (span_of e) (agree first (i + 1) es) (agree-n first (i + 1) es)

start-n : (sp : Span) (i : ℕ) (es : List PitchEntry) → Judged (start sp i es)
start-n Span.Lone i es = λ z. absurd (omega arith)
start-n Span.Neither i es = agree-n Span.Neither (i + 1) es
start-n (Span.Both a b) i es = agree-n (Span.Both a b) (i + 1) es

spans-n : (es : List PitchEntry) → Judged (consistent es)
spans-n [] = tt
spans-n (e ∷ es) = start-n (span_of e) 0 es

ruled-n : (v : Verdict) (at : ℕ) → Judged v → Numbered (ruled v at)
ruled-n agreed at h = tt
ruled-n (broken r) at h = h

decode-n : (s : List ℕ) → Numbered (decode s)
unfolding decode
decode-n s =
    then-n (asked (leb (length s) 65536) 0 (refusal 1 0 0)) _ (asked-n (leb (length s) 65536) 0 0 0 0) λ x m₁.
    then-n (header s m₁) _ (header-n s m₁) λ h m₂.
    then-n (entries h.count s m₂) _ (many-n entry s (λ i a. entry-n i s a) h.count 0 m₂) λ es m₃.
    then-n (ruled (consistent es) m₃) _ (ruled-n (consistent es) m₃ (spans-n es)) λ b e. tt

-- LAW: a refused image's refusal has a number above 0
pub decode-numbered : (s : List ℕ) (r : Refusal) → decode s ≡ refused r → r.number ≡ 0 → ⊥
decode-numbered s r p z = go (decode s) (decode-n s) p
  where
    go : (q : Parsed CoeffTable) → Numbered q → q ≡ refused r → ⊥
    go (ok t e) n h = let w : ◌≡◌ {A = ℕ} 0 1 = cc in absurd (omega arith)
    go (refused x) n h = let w : x ≡ r = cc in n (ap (λ (y : Refusal). y.number) w ∙ z)

-- LAW: an accepted making: its table, and all questions answered yes
pub make-accepted : {G : Type 0} (m : Making) → (make_question m).number ≡ 0
    → ((t : CoeffTable) (e : ℕ) → decode m.image ≡ ok t e → Accepted m.kind t.entries m.rate m.centres → G) → G
unfolding make_question
make-accepted {G} m h g = go (decode m.image) refl h
  where
    go : (p : Parsed CoeffTable) → decode m.image ≡ p → (question_of m.kind p m.rate m.centres).number ≡ 0 → G
    go (ok t e) q n = g t e q (table-accepted m.kind t.entries m.rate m.centres n)
    go (refused r) q n = absurd (decode-numbered m.image r q n)

-- the same, said of the entries that the image gives
pub made-accepted : (m : Making) → (make_question m).number ≡ 0 → Accepted m.kind (entries_of (decode m.image)) m.rate m.centres
made-accepted m e = make-accepted m e λ t n d A. subst (λ (p : Parsed CoeffTable). Accepted m.kind (entries_of p) m.rate m.centres) (sym d) A
