-- Laws of a header, by the parts that the code reads. Assumes nothing.
use Prim.Native.Nat.{ℕ, ◌+◌, ◌≤◌}
use mathlib.Core.Path.{◌≡◌, refl, sym, ◌∙◌}
use mathlib.Core.List.{List}
use mathlib.Core.Bool.{Bool}
use native.Mathlib.Omega.{arith}
use lib.ListN.{length}
use lib.Dec.{leb}
use Rattle.wire.specs.Parse.{refusal, Parsed, ok, refused, asked, then}
use Rattle.wire.specs.Cursor.{part, take_at, u16, u32}
use Rattle.wire.proofs.Found.{u32-is, u16-is, take-is}
use Rattle.wire.proofs.Many.{went, asked-ok}
use Rattle.table.specs.Table.{same}
use Rattle.table.specs.Image.{text, magic, Header, header}
use Rattle.table.specs.inner.Header.{version, header_by}
use Rattle.table.proofs.SizeLaws.{text-end}

-- what follows mark and version, field by field
module _ {B : Type 0} (s : List ℕ) (g : ℕ → ℕ → Parsed B) where
  by-version : (v : ℕ) (p : Parsed Bool) → then (then p (λ b m. ok v m)) g ≡ then p (λ b m. g v m)
  by-version v (ok b m) = refl
  by-version v (refused r) = refl

  by_number : (p : Parsed ℕ) → then (then p (λ v m. then (asked (leb v 1) m (refusal 4 v 0)) (λ b e. ok v e))) g ≡ then p (λ v m. then (asked (leb v 1) m (refusal 4 v 0)) (λ b e. g v e))
  by_number (ok v m) = by-version v (asked (leb v 1) m (refusal 4 v 0))
  by_number (refused r) = refl

  by-mark : (p : Parsed Bool) → then (then p (λ x m. then (u16 s m) (λ v n. then (asked (leb v 1) n (refusal 4 v 0)) (λ b e. ok v e)))) g ≡ then p (λ x m. then (u16 s m) (λ v n. then (asked (leb v 1) n (refusal 4 v 0)) (λ b e. g v e)))
  by-mark (ok x m) = by_number (u16 s m)
  by-mark (refused r) = refl

  by-four : (p : Parsed ℕ)
      → then (then p (λ a m. then (asked (same (part s a 4) magic) m (refusal 3 0 0)) (λ x m. then (u16 s m) (λ v n. then (asked (leb v 1) n (refusal 4 v 0)) (λ b e. ok v e))))) g
      ≡ then p (λ a m. then (asked (same (part s a 4) magic) m (refusal 3 0 0)) (λ x m. then (u16 s m) (λ v n. then (asked (leb v 1) n (refusal 4 v 0)) (λ b e. g v e))))
  by-four (ok a m) = by-mark (asked (same (part s a 4) magic) m (refusal 3 0 0))
  by-four (refused r) = refl

-- LAW: a header is these parts
pub header-by : (s : List ℕ) (at : ℕ) → header s at ≡ header_by s at
unfolding header header_by version
header-by s at = sym (by-four s _ (take_at 4 s at))

pub version-end : (s : List ℕ) (v e : ℕ) → version s 0 ≡ ok v e → e ≡ 6
unfolding version
version-end s v e h =
    went (take_at 4 s 0) _ v e h λ p m₁ g₁ h₁.
    went (asked (same (part s p 4) magic) m₁ (refusal 3 0 0)) _ v e h₁ λ x m₂ g₂ h₂.
    went (u16 s m₂) _ v e h₂ λ w m₃ g₃ h₃.
    went (asked (leb w 1) m₃ (refusal 4 w 0)) _ v e h₃ λ y m₄ g₄ h₄.
    let w₁ : m₁ ≡ 0 + 4 = (take-is s 0 4 p m₁ g₁).end in
    let w₂ = asked-ok (same (part s p 4) magic) m₁ m₂ (refusal 3 0 0) x g₂ in
    let w₃ : m₃ ≡ m₂ + 2 = (u16-is s m₂ w m₃ g₃).end in
    let w₄ = asked-ok (leb w 1) m₃ m₄ (refusal 4 w 0) y g₄ in
    let z : m₄ ≡ e = cc in
    omega arith

-- where a header that was read ends, and that its bytes are there
pub record IsHeader (s : List ℕ) (e : ℕ) (d : Header) : Type 0 where
  pub end : e ≡ 14 + length d.name
  pub there : e ≤ length s

pub header_is : (s : List ℕ) (e : ℕ) (d : Header) → header s 0 ≡ ok d e → IsHeader s e d
unfolding header_by
header_is s e d h =
    went (version s 0) _ d e (sym (header-by s 0) ∙ h) λ v m₁ g₁ h₁.
    went (text s m₁) _ d e h₁ λ t m₂ g₂ h₂.
    went (u32 s m₂) _ d e h₂ λ n m₃ g₃ h₃.
    let w₁ : m₁ ≡ 6 = version-end s v m₁ g₁ in
    let w₂ : m₂ ≡ m₁ + 4 + length t = text-end s m₁ m₂ t g₂ in
    let w₃ = u32-is s m₂ n m₃ g₃ in
    let q : record { version = v; name = t; count = n } ≡ d = cc in
    let z : m₃ ≡ e = cc in
    rw (← q) (record { end = omega arith; there = omega arith })

pub header-end : (s : List ℕ) (e : ℕ) (d : Header) → header s 0 ≡ ok d e → e ≡ 14 + length d.name
header-end s e d h = (header_is s e d h).end
