-- What an answer of the wire's definitions says of the bytes: laws for callers. Assumes nothing.
use Prim.Native.Nat.{ℕ, ◌+◌, ◌≤◌, ◌<◌}
use mathlib.Core.Path.{◌≡◌, refl}
use mathlib.Core.List.{List}
use mathlib.Core.Bool.{Bool, true, false, cond}
use native.Mathlib.Omega.{arith}
use lib.ListN.{length}
use lib.Dec.{leb}
use borrow.Author.Tests.{le-leb, lt-leb, leb-true, leb-false}
use Rattle.wire.specs.Parse.{Refusal, Parsed, ok, refused, then}
use Rattle.wire.specs.Utf8.{utf8}
use Rattle.wire.specs.Cursor.{Place, place, part, le16, le32, take_at, u16, u32, string_of, string, unexpected_eof, bad_utf8}

pub u32-got : (s : List ℕ) (at : ℕ) → at + 4 ≤ length s → u32 s at ≡ ok (le32 s at) (at + 4)
unfolding u32
u32-got s at h = simp (le-leb (at + 4) (length s) h)

pub u32-short : (s : List ℕ) (at : ℕ) → length s < at + 4 → u32 s at ≡ refused unexpected_eof
unfolding u32
u32-short s at h = simp (lt-leb (at + 4) (length s) h)

-- a field of a fixed size that was read: its bytes are there, its value, and where it ends
module _ {A : Type 0} (b : Bool) (v a : A) (n e : ℕ) (r : Refusal) where
  pub field-there : cond b (ok v n) (refused r) ≡ ok a e → b ≡ true
  field-there h = go b h
    where
      go : (t : Bool) → cond t (ok v n) (refused r) ≡ ok a e → t ≡ true
      go true p = refl
      go false p = let z : ◌≡◌ {A = ℕ} 0 1 = cc in absurd (omega arith)

  pub field-value : cond b (ok v n) (refused r) ≡ ok a e → a ≡ v
  field-value h = go b h
    where
      go : (t : Bool) → cond t (ok v n) (refused r) ≡ ok a e → a ≡ v
      go true p = cc
      go false p = let z : ◌≡◌ {A = ℕ} 0 1 = cc in absurd (omega arith)

  pub field_end : cond b (ok v n) (refused r) ≡ ok a e → e ≡ n
  field_end h = go b h
    where
      go : (t : Bool) → cond t (ok v n) (refused r) ≡ ok a e → e ≡ n
      go true p = cc
      go false p = let z : ◌≡◌ {A = ℕ} 0 1 = cc in absurd (omega arith)

pub record IsU32 (s : List ℕ) (at v next : ℕ) : Type 0 where
  pub there : at + 4 ≤ length s
  pub value : v ≡ le32 s at
  pub end : next ≡ at + 4

pub u32-is : (s : List ℕ) (at v next : ℕ) → u32 s at ≡ ok v next → IsU32 s at v next
unfolding u32
u32-is s at v next h = record {
  there = leb-true _ _ (field-there (leb (at + 4) (length s)) (le32 s at) v (at + 4) next unexpected_eof h);
  value = field-value (leb (at + 4) (length s)) (le32 s at) v (at + 4) next unexpected_eof h;
  end = field_end (leb (at + 4) (length s)) (le32 s at) v (at + 4) next unexpected_eof h;
}

pub record IsU16 (s : List ℕ) (at v next : ℕ) : Type 0 where
  pub there : at + 2 ≤ length s
  pub value : v ≡ le16 s at
  pub end : next ≡ at + 2

pub u16-is : (s : List ℕ) (at v next : ℕ) → u16 s at ≡ ok v next → IsU16 s at v next
unfolding u16
u16-is s at v next h = record {
  there = leb-true _ _ (field-there (leb (at + 2) (length s)) (le16 s at) v (at + 2) next unexpected_eof h);
  value = field-value (leb (at + 2) (length s)) (le16 s at) v (at + 2) next unexpected_eof h;
  end = field_end (leb (at + 2) (length s)) (le16 s at) v (at + 2) next unexpected_eof h;
}

pub record IsPart (s : List ℕ) (at n a next : ℕ) : Type 0 where
  pub there : at + n ≤ length s
  pub start : a ≡ at
  pub end : next ≡ at + n

pub take-is : (s : List ℕ) (at n a next : ℕ) → take_at n s at ≡ ok a next → IsPart s at n a next
unfolding take_at
take-is s at n a next h = record {
  there = leb-true _ _ (field-there (leb (at + n) (length s)) at a (at + n) next unexpected_eof h);
  start = field-value (leb (at + n) (length s)) at a (at + n) next unexpected_eof h;
  end = field_end (leb (at + n) (length s)) at a (at + n) next unexpected_eof h;
}

-- the bytes are not there
pub take_short : (s : List ℕ) (at n : ℕ) (r : Refusal) → take_at n s at ≡ refused r → length s < at + n
unfolding take_at
take_short s at n r h = go (leb (at + n) (length s)) refl h
  where
    go : (b : Bool) → leb (at + n) (length s) ≡ b → cond b (ok at (at + n)) (refused unexpected_eof) ≡ refused r → length s < at + n
    go true e p = let z : ◌≡◌ {A = ℕ} 0 1 = cc in absurd (omega arith)
    go false e p = leb-false _ _ e

pub take_eof : (s : List ℕ) (at n : ℕ) (r : Refusal) → take_at n s at ≡ refused r → r ≡ unexpected_eof
unfolding take_at
take_eof s at n r h = go (leb (at + n) (length s)) h
  where
    go : (b : Bool) → cond b (ok at (at + n)) (refused unexpected_eof) ≡ refused r → r ≡ unexpected_eof
    go true p = let z : ◌≡◌ {A = ℕ} 0 1 = cc in absurd (omega arith)
    go false p = cc

pub record IsString (s : List ℕ) (at next : ℕ) (p : Place) : Type 0 where
  pub size : p.len ≡ le32 s at
  pub start : p.start ≡ at + 4
  pub there : p.start + p.len ≤ length s
  pub valid : utf8 (part s p.start p.len) ≡ true
  pub end : next ≡ p.start + p.len

pub string-is : (s : List ℕ) (at next : ℕ) (p : Place) → string s at ≡ ok p next → IsString s at next p
unfolding string string_of
string-is s at next p h = go (u32 s at) refl h
  where
    took : (k d : ℕ) → u32 s at ≡ ok k d → (b v : Bool) → leb (d + k) (length s) ≡ b → utf8 (part s d k) ≡ v
        → cond b (cond v (ok (place d k) (d + k)) (refused bad_utf8)) (refused unexpected_eof) ≡ ok p next → IsString s at next p
    took k d g true true e f h =
        let i = u32-is s at k d g in
        let x : place d k ≡ p = cc in
        let t : d + k ≤ length s = leb-true _ _ e in
        let w : next ≡ d + k = cc in
        rw (← x) (record { size = i.value; start = i.end; there = t; valid = f; end = w })
    took k d g true false e f h = let z : ◌≡◌ {A = ℕ} 0 1 = cc in absurd (omega arith)
    took k d g false v e f h = let z : ◌≡◌ {A = ℕ} 0 1 = cc in absurd (omega arith)

    go : (w : Parsed ℕ) → u32 s at ≡ w → then w (λ n m. string_of n s m) ≡ ok p next → IsString s at next p
    go (ok k d) g h = took k d g (leb (d + k) (length s)) (utf8 (part s d k)) refl refl h
    go (refused r) g h = let z : ◌≡◌ {A = ℕ} 0 1 = cc in absurd (omega arith)
