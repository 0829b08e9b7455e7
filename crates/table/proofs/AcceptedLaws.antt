-- Laws of the header of an accepted image. Assumes nothing.
use Prim.Native.Nat.{ℕ}
use mathlib.Core.Path.{◌≡◌, refl, ap, ◌∙◌}
use mathlib.Core.List.{List}
use native.Mathlib.Omega.{arith}
use lib.ListN.{length}
use borrow.Author.Tests.{le-leb}
use Rattle.wire.specs.Parse.{Refusal, Parsed, ok, refused}
use Rattle.table.specs.Table.{CoeffTable}
use Rattle.table.specs.Image.{Header, header}
use Rattle.table.specs.Decode.{decode}
use Rattle.table.specs.Answer.{counts}
use Rattle.table.specs.inner.Header.{header_in, part_start}
use Rattle.table.proofs.ReadLaws.{headless, table_of, decoded-is}
use Rattle.table.proofs.HeaderLaws.{header_is}

-- no header: the image is refused
pub header-none : (s : List ℕ) (r : Refusal) → header_in (decode s) s ≡ refused r → decode s ≡ refused r
header-none s r h = go (decode s) refl h
  where
    go : (p : Parsed CoeffTable) → decode s ≡ p → header_in p s ≡ refused r → p ≡ refused r
    go (ok t e) q j = absurd (headless s r (length t.entries) e (ap counts q) j)
    go (refused x) q j = let z : x ≡ r = cc in ap refused z

-- a header: the image's own, and the table is of it and of the entries that stand after it
pub header-some : {G : Type 0} (s : List ℕ) (d : Header) (at : ℕ) → header_in (decode s) s ≡ ok d at
    → ((e : ℕ) → header s 0 ≡ ok d at → decode s ≡ ok (table_of s d at) e → G) → G
header-some {G} s d at h k = go (decode s) refl h
  where
    go : (p : Parsed CoeffTable) → decode s ≡ p → header_in p s ≡ ok d at → G
    go (ok t e) q j = k e j (q ∙ ap (λ (x : CoeffTable). ok x e) (decoded-is s d at t e j q))
    go (refused x) q j = let z : ◌≡◌ {A = ℕ} 0 1 = cc in absurd (omega arith)

pub header_of : (s : List ℕ) (n e : ℕ) → counts (decode s) ≡ ok n e → header_in (decode s) s ≡ header s 0
header_of s n e h = go (decode s) h
  where
    go : (p : Parsed CoeffTable) → counts p ≡ ok n e → header_in p s ≡ header s 0
    go (ok t x) j = refl
    go (refused x) j = let z : ◌≡◌ {A = ℕ} 0 1 = cc in absurd (omega arith)

-- the part at byte 10 of an image with a header starts there
pub name-starts : (s : List ℕ) (d : Header) (at k : ℕ) → header s 0 ≡ ok d at → k ≡ 10 → part_start (length s) k ≡ 10
name-starts s d at k g h = let w = header_is s at d g in rw (h, le-leb 10 (length s) (omega arith)) refl
