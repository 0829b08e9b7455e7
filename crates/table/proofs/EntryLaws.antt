-- Laws of an entry, from what the code found at each of its fields. Assumes nothing.
use Prim.Native.Nat.{ℕ, ◌+◌, ◌*◌, ◌^◌, ◌≤◌, ◌<◌, min}
use mathlib.Core.Path.{◌≡◌, refl, ap, sym, ◌∙◌}
use mathlib.Core.List.{List}
use mathlib.Core.Bool.{Bool, true, false}
use native.Mathlib.Omega.{arith}
use native.Mathlib.Decide.{dec_le}
use lib.ListN.{length, get_or}
use lib.Dec.{eqb}
use borrow.Author.Tests.{lt-ltb, le-ltb}
use Rattle.wire.specs.Parse.{Refusal, refusal, Parsed, ok, refused, asked, then}
use Rattle.wire.specs.Cursor.{u32}
use Rattle.table.specs.declared.entry.EntryView.{EntryView}
use Rattle.table.specs.Table.{Pair, has_channel, coefficient_at, width}
use Rattle.table.specs.Image.{counted, pairs, entry}
use Rattle.table.specs.View.{entry_at}
use Rattle.table.specs.inner.Entry.{Numbers, numbers, metadata, entry_by}
use Rattle.table.proofs.WordLaws.{length-words, word-past}

-- ---- an entry by the parts that the code reads
abbrev numbers_of : ℕ → ℕ → List ℕ → Numbers
numbers_of a b l = record { first = a; second = b; words = l }

-- what follows two numbers and a counted list, field by field
module _ {B : Type 0} (s : List ℕ) (g : Numbers → ℕ → Parsed B) (f : ℕ → ℕ → List ℕ → ℕ → Parsed B) (alike : (a b : ℕ) (l : List ℕ) (e : ℕ) → g (numbers_of a b l) e ≡ f a b l e) where
  by-list : (a b : ℕ) (p : Parsed (List ℕ)) → then (then p (λ l e. ok (numbers_of a b l) e)) g ≡ then p (λ l e. f a b l e)
  by-list a b (ok l e) = alike a b l e
  by-list a b (refused r) = refl

  by-second : (a : ℕ) (p : Parsed ℕ) → then (then p (λ b n. then (counted s n) (λ l e. ok (numbers_of a b l) e))) g ≡ then p (λ b n. then (counted s n) (λ l e. f a b l e))
  by-second a (ok b n) = by-list a b (counted s n)
  by-second a (refused r) = refl

  by_first : (p : Parsed ℕ) → then (then p (λ a m. then (u32 s m) (λ b n. then (counted s n) (λ l e. ok (numbers_of a b l) e)))) g ≡ then p (λ a m. then (u32 s m) (λ b n. then (counted s n) (λ l e. f a b l e)))
  by_first (ok a m) = by-second a (u32 s m)
  by_first (refused r) = refl

  numbers-then : (at : ℕ) → then (numbers s at) g ≡ then (u32 s at) (λ a m. then (u32 s m) (λ b n. then (counted s n) (λ l e. f a b l e)))
  unfolding numbers
  numbers-then at = by_first (u32 s at)

metadata-then : {B : Type 0} (s : List ℕ) (at : ℕ) (g : List Pair → ℕ → Parsed B) → then (metadata s at) g ≡ then (u32 s at) (λ q m. then (pairs q s m) g)
unfolding metadata
metadata-then s at g = go (u32 s at)
  where
    go : (p : Parsed ℕ) → then (then p (λ q m. pairs q s m)) g ≡ then p (λ q m. then (pairs q s m) g)
    go (ok q m) = refl
    go (refused r) = refl

-- LAW: an entry is these parts
pub entry-by : (i : ℕ) (s : List ℕ) (at : ℕ) → entry i s at ≡ entry_by i s at
unfolding entry entry_by
entry-by i s at = sym (numbers-then s _ _ (λ f st fs e. numbers-then s _ _ (λ k j cs n. metadata-then s n _) e) at)

-- an entry by what the code found at each part
module _ (i : ℕ) (s : List ℕ) (at : ℕ) where
  pub no-numbers : (r : Refusal) → numbers s at ≡ refused r → entry i s at ≡ refused r
  unfolding entry_by
  no-numbers r e = entry-by i s at ∙ rw e refl

  module _ (x : Numbers) (c₁ : ℕ) (e₁ : numbers s at ≡ ok x c₁) where
    pub no-rows-after : (r : Refusal) → numbers s c₁ ≡ refused r → entry i s at ≡ refused r
    unfolding entry_by
    no-rows-after r e = entry-by i s at ∙ rw (e₁, e) refl

    module _ (y : Numbers) (c₂ : ℕ) (e₂ : numbers s c₁ ≡ ok y c₂) where
      pub no-pairs-after : (r : Refusal) → metadata s c₂ ≡ refused r → entry i s at ≡ refused r
      unfolding entry_by
      no-pairs-after r e = entry-by i s at ∙ rw (e₁, e₂, e) refl

      module _ (ms : List Pair) (end : ℕ) (e₃ : metadata s c₂ ≡ ok ms end)
          (m n : ℕ) (lx : length x.words ≡ m) (ly : length y.words ≡ n) (b : Bool) (t : eqb (y.first * (m + y.second)) n ≡ b) where
        pub entry-then : entry i s at ≡ then (asked b end (refusal 6 i 0)) (λ _ e. ok (record { f0_hz = x.first; stretch = x.second; partial_freqs = x.words; k_channels = y.first; j_noise = y.second; coefficients = y.words; metadata = ms }) e)
        unfolding entry_by
        entry-then = entry-by i s at ∙ rw (e₁, e₂, e₃, lx, ly, t) refl

-- a coefficient of a view's entry, by the tests of the code
module _ (s : List ℕ) (v : EntryView) (c column : ℕ) where
  abbrev row : ℕ
  row = v.m_partials + v.j_noise

  wide : width (entry_at s v) ≡ row
  wide = ap (λ (n : ℕ). n + v.j_noise) (length-words s v.partials_at v.m_partials)

  pub coefficient-none : has_channel (entry_at s v) c ≡ false → coefficient_at (entry_at s v) c column ≡ 0
  unfolding coefficient_at
  coefficient-none h = rw h refl

  pub coefficient-past : has_channel (entry_at s v) c ≡ true → row ≤ column → coefficient_at (entry_at s v) c column ≡ 0
  unfolding coefficient_at
  coefficient-past h g = rw (h, wide, le-ltb column row g) refl

  coefficient-is : has_channel (entry_at s v) c ≡ true → column < row → coefficient_at (entry_at s v) c column ≡ get_or (entry_at s v).coefficients (c * row + column) 0
  unfolding coefficient_at
  coefficient-is h g = rw (h, wide, lt-ltb column row g) refl

  -- an index that does not fit is past the last, and so is the largest
  pub coefficient-at : (i : ℕ) → v.coefficients < 2 ^ 32 → i ≡ min (min (c * row) 0xFFFF_FFFF_FFFF_FFFF + column) 0xFFFF_FFFF_FFFF_FFFF
      → has_channel (entry_at s v) c ≡ true → column < row → get_or (entry_at s v).coefficients i 0 ≡ coefficient_at (entry_at s v) c column
  coefficient-at i small e h g = go (dec_le (c * row + column) 0xFFFF_FFFF_FFFF_FFFF) ∙ sym (coefficient-is h g)
    where
      go : Dec (c * row + column ≤ 0xFFFF_FFFF_FFFF_FFFF) → get_or (entry_at s v).coefficients i 0 ≡ get_or (entry_at s v).coefficients (c * row + column) 0
      go (yes k) = let q : i ≡ c * row + column = omega arith in ap (λ (n : ℕ). get_or (entry_at s v).coefficients n 0) q
      go (no k) =
          word-past v.coefficients s v.coefficients_at i (omega arith)
          ∙ sym (word-past v.coefficients s v.coefficients_at (c * row + column) (omega arith))
