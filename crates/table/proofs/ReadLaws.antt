-- Laws of a whole image: its answer, and what an accepted one holds. Assumes nothing.
use Prim.Native.Nat.{ℕ}
use mathlib.Core.Path.{◌≡◌, refl, ap, sym, ◌∙◌}
use mathlib.Core.List.{List}
use mathlib.Core.Bool.{Bool, true, false, cond}
use native.Mathlib.Omega.{arith}
use native.Mathlib.Nat.{zero-add}
use lib.ListN.{length}
use lib.Dec.{leb}
use Rattle.wire.specs.Parse.{Refusal, refusal, Parsed, ok, refused, asked, then}
use Rattle.wire.proofs.Many.{many-stand, went, asked-ok}
use Rattle.table.specs.declared.span.Baseline.{Baseline}
use Rattle.table.specs.Table.{CoeffTable, PitchEntry}
use Rattle.table.specs.Image.{Header, header, entry, entries}
use Rattle.table.specs.Span.{Verdict, agreed, broken, consistent, ruled}
use Rattle.table.specs.inner.Baseline.{verdict_from, concluded, answer_from}
use Rattle.table.specs.Decode.{decode}
use Rattle.table.specs.inner.Entry.{entry_list}
use Rattle.table.specs.inner.Header.{head}
use Rattle.table.specs.Answer.{counts}

abbrev table_from : Header → List PitchEntry → CoeffTable
table_from h es = record { version = h.version; name = h.name; entries = es }

-- ---- the answer to a whole image
counts-ruled : (v : Verdict) (t : CoeffTable) (at : ℕ) → counts (then (ruled v at) (λ b e. ok t e)) ≡ concluded v (length t.entries) at
counts-ruled agreed t at = refl
counts-ruled (broken r) t at = refl

counts-entries : (h : Header) (r : Parsed (List PitchEntry)) → counts (then r (λ es at. then (ruled (consistent es) at) (λ b e. ok (table_from h es) e))) ≡ answer_from Baseline.Start 0 r
unfolding answer_from verdict_from
counts-entries h (ok es at) =
    counts-ruled (consistent es) (table_from h es) at
    ∙ ap (λ (n : ℕ). concluded (consistent es) n at) (sym (zero-add (length es)))
counts-entries h (refused r) = refl

-- by what a reading begins with
pub read_no : (s : List ℕ) (r : Refusal) → head s ≡ refused r → decode s ≡ refused r
unfolding head decode
read_no s r h = go (leb (length s) 65536) refl h
  where
    go : (b : Bool) → leb (length s) 65536 ≡ b → cond b (header s 0) (refused (refusal 1 0 0)) ≡ refused r → decode s ≡ refused r
    go true e g = rw (e, g) refl
    go false e g = let z : refusal 1 0 0 ≡ r = cc in rw e (ap refused z)

head-is : (s : List ℕ) (d : Header) (at : ℕ) → head s ≡ ok d at → (leb (length s) 65536 ≡ true) × (header s 0 ≡ ok d at)
unfolding head
head-is s d at h = go (leb (length s) 65536) refl h
  where
    go : (b : Bool) → leb (length s) 65536 ≡ b → cond b (header s 0) (refused (refusal 1 0 0)) ≡ ok d at → (leb (length s) 65536 ≡ true) × (header s 0 ≡ ok d at)
    go true e g = (e, g)
    go false e g = let z : ◌≡◌ {A = ℕ} 0 1 = cc in absurd (omega arith)

pub head-header : (s : List ℕ) (d : Header) (at : ℕ) → head s ≡ ok d at → header s 0 ≡ ok d at
head-header s d at h = (head-is s d at h).1

pub read-go : (s : List ℕ) (d : Header) (at : ℕ) → head s ≡ ok d at → counts (decode s) ≡ answer_from Baseline.Start 0 (entries d.count s at)
unfolding decode
read-go s d at h =
    let w = head-is s d at h in
    rw (w.0, w.1) (counts-entries d (entries d.count s at))

-- ---- what an accepted image holds: the header's fields, and the entries that stand after it
abbrev pub table_of : List ℕ → Header → ℕ → CoeffTable
table_of s d at = table_from d (entry_list d.count s at)

pub decoded-is : (s : List ℕ) (d : Header) (at : ℕ) (t : CoeffTable) (e : ℕ) → header s 0 ≡ ok d at → decode s ≡ ok t e → t ≡ table_of s d at
unfolding decode
decoded-is s d at t e g h =
    went (asked (leb (length s) 65536) 0 (refusal 1 0 0)) _ t e h λ x m₁ g₁ h₁.
    let a = asked-ok (leb (length s) 65536) 0 m₁ (refusal 1 0 0) x g₁ in
    went (header s m₁) _ t e h₁ λ b m₂ g₂ h₂.
    went (entries b.count s m₂) _ t e h₂ λ es m₃ g₃ h₃.
    went (ruled (consistent es) m₃) _ t e h₃ λ y m₄ g₄ h₄.
    let k : header s 0 ≡ ok b m₂ = rw a.1 g₂ in
    let p : d ≡ b = cc in
    let q : at ≡ m₂ = cc in
    let r : t ≡ table_from b es = cc in
    rw (r, p, q, many-stand entry s b.count 0 m₂ m₃ es g₃) refl

pub accepted-table : {G : Type 0} (s : List ℕ) (n e : ℕ) → counts (decode s) ≡ ok n e → ((t : CoeffTable) → decode s ≡ ok t e → length t.entries ≡ n → G) → G
accepted-table {G} s n e h k = go (decode s) refl h
  where
    go : (p : Parsed CoeffTable) → decode s ≡ p → counts p ≡ ok n e → G
    go (ok t at) q j = let x : at ≡ e = cc in k t (q ∙ ap (ok t) x) cc
    go (refused r) q j = let z : ◌≡◌ {A = ℕ} 0 1 = cc in absurd (omega arith)

pub read_table : (s : List ℕ) (d : Header) (at n e : ℕ) → counts (decode s) ≡ ok n e → header s 0 ≡ ok d at → decode s ≡ ok (table_of s d at) e
read_table s d at n e h g = accepted-table s n e h λ t p l. p ∙ ap (λ (x : CoeffTable). ok x e) (decoded-is s d at t e g p)

pub refused-is : (s : List ℕ) (r : Refusal) → counts (decode s) ≡ refused r → decode s ≡ refused r
refused-is s r h = go (decode s) h
  where
    go : (p : Parsed CoeffTable) → counts p ≡ refused r → p ≡ refused r
    go (ok t at) j = let z : ◌≡◌ {A = ℕ} 0 1 = cc in absurd (omega arith)
    go (refused q) j = let x : q ≡ r = cc in ap refused x

-- an image that is accepted has a header
pub headless : (s : List ℕ) (r : Refusal) (n e : ℕ) → counts (decode s) ≡ ok n e → header s 0 ≡ refused r → ⊥
unfolding decode
headless s r n e h g = accepted-table s n e h λ t p l.
    went (asked (leb (length s) 65536) 0 (refusal 1 0 0)) _ t e p λ x m₁ g₁ h₁.
    let a = asked-ok (leb (length s) 65536) 0 m₁ (refusal 1 0 0) x g₁ in
    went (header s m₁) _ t e h₁ λ b m₂ g₂ h₂.
    let k : header s 0 ≡ ok b m₂ = rw a.1 g₂ in
    let z : ◌≡◌ {A = ℕ} 0 1 = cc in omega arith
