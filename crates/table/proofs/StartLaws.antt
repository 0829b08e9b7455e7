-- Where the entries start. Assumes nothing.
use Prim.Native.Nat.{ℕ, ◌+◌}
use mathlib.Core.Path.{◌≡◌, refl}
use mathlib.Core.List.{List}
use lib.ListN.{length}
use lib.Dec.{leb}
use Rattle.wire.specs.Parse.{refusal, ok, asked}
use Rattle.wire.proofs.Many.{went, asked-ok, many-length}
use Rattle.table.proofs.HeaderLaws.{header-end}
use Rattle.table.specs.Table.{CoeffTable}
use Rattle.table.specs.Image.{Header, header, entry, entries}
use Rattle.table.specs.Span.{consistent, ruled}
use Rattle.table.specs.Decode.{decode}
use Rattle.table.specs.Start.{start_of}

-- LAW: where the entries of an accepted image start, by its header
pub start_is : (s : List ℕ) (d : Header) (at : ℕ) (t : CoeffTable) (e : ℕ) → header s 0 ≡ ok d at → decode s ≡ ok t e
    → start_of (decode s) ≡ record { count = d.count; at = at }
unfolding decode
start_is s d at t e g h =
    went (asked (leb (length s) 65536) 0 (refusal 1 0 0)) _ t e h λ x m₁ g₁ h₁.
    let a = asked-ok (leb (length s) 65536) 0 m₁ (refusal 1 0 0) x g₁ in
    went (header s m₁) _ t e h₁ λ b m₂ g₂ h₂.
    went (entries b.count s m₂) _ t e h₂ λ es m₃ g₃ h₃.
    went (ruled (consistent es) m₃) _ t e h₃ λ y m₄ g₄ h₄.
    let k : header s 0 ≡ ok b m₂ = rw a.1 g₂ in
    let q : d ≡ b = cc in
    let f : at ≡ m₂ = cc in
    let r : t ≡ record { version = b.version; name = b.name; entries = es } = cc in
    let n : length es ≡ b.count = many-length entry s b.count 0 m₂ m₃ es g₃ in
    let p : m₂ ≡ 14 + length b.name = header-end s m₂ b k in
    rw (h, r, q, f, ← p, n) refl
