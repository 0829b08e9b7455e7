-- Laws of the desk's values over the entries. Assumes nothing.
use Prim.Native.Nat.{ℕ, ◌+◌, ◌-◌, ◌<◌, max}
use mathlib.Core.Path.{◌≡◌, refl, ap, sym, ◌∙◌}
use mathlib.Core.List.{List, [], ◌∷◌}
use native.Mathlib.Omega.{arith}
use lib.Ieee.{of_int, to_bits, round}
use Rattle.wire.specs.Parse.{Refusal, ok, refused, standing}
use Rattle.wire.proofs.Many.{whole, stand-go, stand-no, stand-end}
use Rattle.std.specs.Prelude.{Some, None, unwrap_or}
use Rattle.std.specs.Prelude.{Option as CodeOption}
use Rattle.table.specs.declared.desk.Kind.{Kind}
use Rattle.table.specs.Answer.{found_bits}
use Rattle.table.specs.Table.{PitchEntry, metadata_value}
use Rattle.table.specs.Image.{entry}
use Rattle.table.specs.inner.Entry.{entry_list}
use Rattle.table.specs.Desk.{bands_of, band_count, value_or, first_value, bits_of}

pub bands-go : (k : Kind) (best : ℕ) (s : List ℕ) (i n at next : ℕ) (e : PitchEntry) → i < n → entry i s at ≡ ok e next
    → max best (band_count k (standing entry i (n - i) s at)) ≡ max (max best (bands_of k e)) (band_count k (standing entry (i + 1) (n - (i + 1)) s next))
unfolding band_count
bands-go k best s i n at next e h g = rw (stand-go entry s i n at next e h g) (omega arith)

pub bands-none : (k : Kind) (best : ℕ) (l : List PitchEntry) → l ≡ [] → max best (band_count k l) ≡ best
unfolding band_count
bands-none k best l h = rw h (omega arith)

-- the patterns that the code has for 80 and 12,000
pub eighty : bits_of 80 ≡ 0x42A00000
unfolding bits_of to_bits of_int round
eighty = refl

pub twelve-thousand : bits_of 12000 ≡ 0x463B8000
unfolding bits_of to_bits of_int round
twelve-thousand = refl

-- a key's value in the first entry, by what stands there
first-cons : (key : List ℕ) (d : ℕ) (n : ℕ) (s : List ℕ) (at : ℕ) (l : List PitchEntry) → standing entry 0 (n - 0) s at ≡ l → first_value key d (entry_list n s at) ≡ first_value key d l
first-cons key d n s at l h = ap (first_value key d) (ap (λ (k : ℕ). standing entry 0 k s at) (sym (whole n)) ∙ h)

pub first-empty : (key : List ℕ) (d n : ℕ) (s : List ℕ) (at : ℕ) → n ≡ 0 → first_value key d (entry_list n s at) ≡ d
first-empty key d n s at z = first-cons key d n s at [] (stand-end entry s 0 n at (omega arith))

pub first-go : (key : List ℕ) (d n : ℕ) (s : List ℕ) (at next : ℕ) (e : PitchEntry) → (n ≡ 0 → ⊥) → entry 0 s at ≡ ok e next
    → first_value key d (entry_list n s at) ≡ value_or (metadata_value key e.metadata) d
first-go key d n s at next e z g = first-cons key d n s at (e ∷ standing entry (0 + 1) (n - (0 + 1)) s next) (stand-go entry s 0 n at next e (omega arith) g)

pub first-no : (key : List ℕ) (d n : ℕ) (s : List ℕ) (at : ℕ) (r : Refusal) → (n ≡ 0 → ⊥) → entry 0 s at ≡ refused r → first_value key d (entry_list n s at) ≡ d
first-no key d n s at r z g = first-cons key d n s at [] (stand-no entry s 0 n at r (omega arith) g)

-- the code's default is the definitions'
pub value-or : (o : CodeOption ℕ) (d : ℕ) → unwrap_or o d ≡ value_or (found_bits o) d
value-or (Some v) d = refl
value-or None d = refl
