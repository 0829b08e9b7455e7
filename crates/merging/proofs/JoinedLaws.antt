-- Question 7 of two tables joined, as the code asks it. Assumes nothing.
use Prim.Native.Nat.{ℕ, ◌-◌}
use mathlib.Core.Path.{◌≡◌, refl, ap, sym, ◌∙◌}
use mathlib.Core.List.{List, [], ◌∷◌, ◌++◌, append-nil}
use mathlib.Core.Bool.{Bool, true, false}
use native.Mathlib.Omega.{arith}
use Rattle.wire.specs.Parse.{Refusal, ok, refused, many, standing}
use Rattle.wire.proofs.Many.{whole, many-no, stand-go, stand-end}
use Rattle.table.specs.Table.{PitchEntry}
use Rattle.table.specs.Image.{entry, entries}
use Rattle.table.specs.inner.Entry.{entry_list}
use Rattle.table.specs.Decode.{decode, entries_of}
use Rattle.table.specs.Span.{agreed, consistent, agrees}
use Rattle.merging.specs.declared.extent.Extent.{Extent}
use Rattle.table.specs.inner.Answers.{reads}
use Rattle.merging.proofs.ImageLaws.{Holds, holds-reads, holds-entries, holds-list}
use Rattle.merging.proofs.SpanOrder.{joined_is}

first_of : (n : ℕ) (s : List ℕ) (at next : ℕ) (e : PitchEntry) → (n ≡ 0 → ⊥) → entry 0 s at ≡ ok e next → entry_list n s at ≡ e ∷ standing entry 1 (n - 1) s next
first_of n s at next e h g = ap (λ (k : ℕ). standing entry 0 k s at) (sym (whole n)) ∙ stand-go entry s 0 n at next e (omega arith) g

none_of : (n : ℕ) (s : List ℕ) (at : ℕ) → n ≡ 0 → entry_list n s at ≡ []
none_of n s at h = ap (λ (k : ℕ). standing entry 0 k s at) (sym (whole n)) ∙ stand-end entry s 0 n at (omega arith)

never_first : (n : ℕ) (s : List ℕ) (at : ℕ) (r : Refusal) → reads (entries n s at) ≡ true → (n ≡ 0 → ⊥) → entry 0 s at ≡ refused r → ⊥
never_first n s at r k h g =
    let x : reads (entries n s at) ≡ false = ap reads (ap (λ (i : ℕ). many entry 0 i s at) (sym (whole n)) ∙ many-no entry s 0 n at r (omega arith) g) in
    let z : ◌≡◌ {A = ℕ} 0 1 = cc in
    omega arith

-- the code's tests, and what they say of the joined list
module _ (s v : List ℕ) (x y : Extent) (p : Holds s x) (q : Holds v y) where
  abbrev verdict : Bool
  verdict = agrees (consistent (entries_of (decode s) ++ entries_of (decode v)))

  no-entry : (w : List ℕ) (z : Extent) → Holds w z → z.count ≡ 0 → entries_of (decode w) ≡ []
  no-entry w z h g = sym (holds-list w z h) ∙ none_of z.count w z.at g

  agreed-of : (w : List ℕ) (z : Extent) (h : Holds w z) → consistent (entries_of (decode w)) ≡ agreed
  agreed-of w z h = rw (holds-entries w z h) h.agree

  pub no-first : x.count ≡ 0 → true ≡ verdict
  no-first h = rw (no-entry s x p h, agreed-of v y q) refl

  pub no_second : y.count ≡ 0 → true ≡ verdict
  no_second h = rw (no-entry v y q h, append-nil (entries_of (decode s)), agreed-of s x p) refl

  pub first_read : (r : Refusal) → (x.count ≡ 0 → ⊥) → entry 0 s x.at ≡ refused r → ⊥
  first_read r h g = never_first x.count s x.at r (holds-reads s x p) h g

  pub second-read : (r : Refusal) → (y.count ≡ 0 → ⊥) → entry 0 v y.at ≡ refused r → ⊥
  second-read r h g = never_first y.count v y.at r (holds-reads v y q) h g

  -- two tables of one entry at least: question 7 is that of the first entries of the two
  pub both-asked : (e f : PitchEntry) (m n : ℕ) → (x.count ≡ 0 → ⊥) → (y.count ≡ 0 → ⊥) → entry 0 s x.at ≡ ok e m → entry 0 v y.at ≡ ok f n
      → agrees (consistent (e ∷ f ∷ [])) ≡ verdict
  both-asked e f m n h g k l =
      let a : entries_of (decode s) ≡ e ∷ standing entry 1 (x.count - 1) s m = sym (holds-list s x p) ∙ first_of x.count s x.at m e h k in
      let b : entries_of (decode v) ≡ f ∷ standing entry 1 (y.count - 1) v n = sym (holds-list v y q) ∙ first_of y.count v y.at n f g l in
      rw (a, b)
      (joined_is e (standing entry 1 (x.count - 1) s m) f (standing entry 1 (y.count - 1) v n) (rw a at (agreed-of s x p)) (rw b at (agreed-of v y q)))
