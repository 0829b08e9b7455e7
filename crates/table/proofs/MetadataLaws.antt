-- Laws of the pairs of an entry, for the loops over them. Assumes nothing.
use Prim.Native.Nat.{ℕ, ◌+◌, ◌-◌, ◌≤◌, ◌<◌}
use mathlib.Core.Path.{◌≡◌, refl, ap, sym, ◌∙◌}
use mathlib.Core.List.{List, ◌∷◌}
use mathlib.Core.Bool.{true, false}
use mathlib.Core.Option.{some}
use native.Mathlib.Omega.{arith}
use lib.ListN.{length}
use Rattle.wire.specs.Parse.{Refusal, Parsed, Parser, ok, refused, then, many, standing}
use Rattle.wire.specs.Cursor.{part, le32, u32, string}
use Rattle.wire.proofs.Found.{u32-got, u32-is, string-is}
use Rattle.wire.proofs.Many.{went, many-go, many-no, many-stand, stand-go}
use Rattle.table.specs.Table.{Pair, same, metadata_value}
use Rattle.table.specs.Image.{text, pair, pairs}
use Rattle.table.specs.View.{pair_list}
use Rattle.table.specs.inner.Answers.{reads, skips}

-- past the pairs, by what stands at the first
skips-cons : (q : Pair) (r : Parsed (List Pair)) → skips (then r (λ ps e. ok (q ∷ ps) e)) ≡ skips r
skips-cons q (ok ps e) = refl
skips-cons q (refused r) = refl

pub skip-go : (s : List ℕ) (i n at next : ℕ) (q : Pair) → i < n → pair s at ≡ ok q next
    → skips (many (λ i. pair) i (n - i) s at) ≡ skips (many (λ i. pair) (i + 1) (n - (i + 1)) s next)
skip-go s i n at next q h e = ap skips (many-go (λ i. pair) s i n at next q h e) ∙ skips-cons q (many (λ i. pair) (i + 1) (n - (i + 1)) s next)

-- what a skip says of the pairs
skips-is : (p : Parsed (List Pair)) (end : ℕ) → skips p ≡ ok tt end → (ps : List Pair) × (p ≡ ok ps end)
skips-is (ok ps e) end h = let q : e ≡ end = cc in (ps, ap (ok ps) q)
skips-is (refused r) end h = let z : ◌≡◌ {A = ℕ} 0 1 = cc in absurd (omega arith)

skips-isnt : (p : Parsed (List Pair)) (r : Refusal) → skips p ≡ refused r → p ≡ refused r
skips-isnt (ok ps e) r h = let z : ◌≡◌ {A = ℕ} 0 1 = cc in absurd (omega arith)
skips-isnt (refused q) r h = let e : q ≡ r = cc in ap refused e

pub pairs-are : (n : ℕ) (s : List ℕ) (at end : ℕ) → skips (pairs n s at) ≡ ok tt end → pairs n s at ≡ ok (pair_list n s at) end
pairs-are n s at end h =
    let w = skips-is (pairs n s at) end h in
    w.1 ∙ ap (λ (l : List Pair). ok l end) (sym (many-stand (λ i. pair) s n 0 at end w.0 w.1))

pub pairs-arent : (n : ℕ) (s : List ℕ) (at : ℕ) (r : Refusal) → skips (pairs n s at) ≡ refused r → pairs n s at ≡ refused r
pairs-arent n s at r h = skips-isnt (pairs n s at) r h

-- ---- what was read before
pub was_read : {A G : Type 0} (r : Parsed A) → reads r ≡ true → ((a : A) (e : ℕ) → r ≡ ok a e → G) → G
was_read (ok a e) h k = k a e refl
was_read (refused r) h k = let z : ◌≡◌ {A = ℕ} 0 1 = cc in absurd (omega arith)

-- of what is not known to have been read nothing is asked
pub not_known : {P : Type 0} → false ≡ true → P
not_known h = let z : ◌≡◌ {A = ℕ} 0 1 = cc in absurd (omega arith)

-- things one after the other that are read: so is the next one, and so are those after it
reads-cons : {A : Type 0} (a : A) (r : Parsed (List A)) → reads (then r (λ l x. ok (a ∷ l) x)) ≡ reads r
reads-cons a (ok l x) = refl
reads-cons a (refused r) = refl

pub then-read : {A : Type 0} (p : ℕ → Parser A) (s : List ℕ) (i n at : ℕ) → i < n → reads (many p i (n - i) s at) ≡ true
    → (a : A) (next : ℕ) → p i s at ≡ ok a next → reads (many p (i + 1) (n - (i + 1)) s next) ≡ true
then-read p s i n at less h a next g =
    sym (reads-cons a (many p (i + 1) (n - (i + 1)) s next)) ∙ ap reads (sym (many-go p s i n at next a less g)) ∙ h

pub next-read : {A G : Type 0} (p : ℕ → Parser A) (s : List ℕ) (i n at : ℕ) → i < n → reads (many p i (n - i) s at) ≡ true
    → ((a : A) (next : ℕ) → p i s at ≡ ok a next → reads (many p (i + 1) (n - (i + 1)) s next) ≡ true → G) → G
next-read {A} {G} p s i n at less h k = go (p i s at) refl
  where
    go : (r : Parsed A) → p i s at ≡ r → G
    go (ok a next) g = k a next g (then-read p s i n at less h a next g)
    go (refused r) g =
        let x : reads (many p i (n - i) s at) ≡ false = ap reads (many-no p s i n at r less g) in
        let z : ◌≡◌ {A = ℕ} 0 1 = cc in
        absurd (omega arith)

-- a pair that was read, by the length of its key
pub record PairParts (s : List ℕ) (at e : ℕ) (a : Pair) : Type 0 where
  pub there : at + 4 ≤ length s
  pub room : at + 4 + le32 s at + 4 ≤ length s
  pub end : e ≡ at + 4 + le32 s at + 4
  pub key : a.key ≡ part s (at + 4) (le32 s at)
  pub value : a.value ≡ le32 s (at + 4 + le32 s at)

pub pair_parts : (s : List ℕ) (at e : ℕ) (a : Pair) → pair s at ≡ ok a e → PairParts s at e a
unfolding pair
pair_parts s at e a h =
    went (text s at) (λ k next. then (u32 s next) (λ v e. ok (record { key = k; value = v }) e)) a e h λ k m g h₁.
    went (u32 s m) (λ v e. ok (record { key = k; value = v }) e) a e h₁ λ v n g₂ h₂.
    went (string s at) _ k m g λ p m₁ g₃ h₃.
    let i = string-is s at m₁ p g₃ in
    let j = u32-is s m v n g₂ in
    let start : p.start ≡ at + 4 = i.start in
    let size : p.len ≡ le32 s at = i.size in
    let end : m₁ ≡ p.start + p.len = i.end in
    let there : p.start + p.len ≤ length s = i.there in
    let x : m₁ ≡ m = cc in
    let y : n ≡ e = cc in
    let z : n ≡ m + 4 = j.end in
    let w : m + 4 ≤ length s = j.there in
    let o : m ≡ at + 4 + le32 s at = omega arith in
    let q : part s p.start p.len ≡ k = cc in
    let u : record { key = k; value = v } ≡ a = cc in
    rw (← u) (record { there = omega arith; room = omega arith; end = omega arith; key = sym q ∙ rw (start, size) refl; value = j.value ∙ ap (le32 s) o })

-- it is read again by the length of its key and its value alone
same-pair : (a : Pair) (k : List ℕ) (v : ℕ) → a.key ≡ k → a.value ≡ v → a ≡ record { key = k; value = v }
same-pair a k v p q = rw (← p, ← q) refl

module _ (s : List ℕ) (at : ℕ) (h : reads (pair s at) ≡ true) where
  pub length-there : (r : Refusal) → u32 s at ≡ refused r → ⊥
  length-there r g =
      was_read (pair s at) h λ a e k.
      let w = u32-got s at (pair_parts s at e a k).there in
      let z : ◌≡◌ {A = ℕ} 0 1 = cc in
      omega arith

  module _ (n d : ℕ) (g : u32 s at ≡ ok n d) where
    pub key_fits : d + n + 4 ≤ length s
    key_fits =
        was_read (pair s at) h λ a e k.
        let w = (pair_parts s at e a k).room in
        let i = u32-is s at n d g in
        let p : d ≡ at + 4 = i.end in
        let q : n ≡ le32 s at = i.value in
        omega arith

    pub value_there : (r : Refusal) → u32 s (d + n) ≡ refused r → ⊥
    value_there r k =
        let w = u32-got s (d + n) key_fits in
        let z : ◌≡◌ {A = ℕ} 0 1 = cc in
        omega arith

    pub pair-again-is : (v e : ℕ) → u32 s (d + n) ≡ ok v e → ok (record { key = part s d n; value = v }) e ≡ pair s at
    pair-again-is v e k =
        was_read (pair s at) h λ a x y.
        let w = pair_parts s at x a y in
        let i = u32-is s at n d g in
        let j = u32-is s (d + n) v e k in
        let p : d ≡ at + 4 = i.end in
        let q : n ≡ le32 s at = i.value in
        let o : d + n ≡ at + 4 + le32 s at = omega arith in
        let z : x ≡ e = w.end ∙ omega arith in
        let key : a.key ≡ part s d n = w.key ∙ rw (p, q) refl in
        let value : a.value ≡ v = w.value ∙ ap (le32 s) (sym o) ∙ sym j.value in
        sym (y ∙ rw (z, same-pair a (part s d n) v key value) refl)

-- a key among the pairs, by what stands at the first
pub find-here : (key s : List ℕ) (i n at next : ℕ) (q : Pair) → i < n → pair s at ≡ ok q next → same q.key key ≡ true
    → metadata_value key (standing (λ i. pair) i (n - i) s at) ≡ some q.value
unfolding metadata_value
find-here key s i n at next q h e t = rw (stand-go (λ i. pair) s i n at next q h e, t) refl

pub find-go : (key s : List ℕ) (i n at next : ℕ) (q : Pair) → i < n → pair s at ≡ ok q next → same q.key key ≡ false
    → metadata_value key (standing (λ i. pair) i (n - i) s at) ≡ metadata_value key (standing (λ i. pair) (i + 1) (n - (i + 1)) s next)
unfolding metadata_value
find-go key s i n at next q h e t = rw (stand-go (λ i. pair) s i n at next q h e, t) refl
