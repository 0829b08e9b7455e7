-- UTF-8: the syntax of RFC 3629, section 4.
use Rattle.std.specs.Prelude.{ℕ, List, [], ◌∷◌, Bool, true, false, ◌&&◌, cond, leb}

-- the octets from `low` to `high`, which the RFC writes %xLOW-HIGH
pub record Octets : Type 0 where
  pub low : ℕ
  pub high : ℕ

abbrev pub octet_range : ℕ → ℕ → Octets
octet_range lo hi = record { low = lo; high = hi }

abbrev pub octets_hold : Octets → ℕ → Bool
octets_hold r b = leb b r.high && leb r.low b

-- UTF8-tail = %x80-BF
abbrev pub utf8_tail : Octets
utf8_tail = octet_range 0x80 0xBF

-- UTF8-char: a row for each alternative of UTF8-1, UTF8-2, UTF8-3 and UTF8-4, an entry for each octet of the character
abbrev pub chars : List (List Octets)
chars =
    (octet_range 0x00 0x7F ∷ []) ∷
    (octet_range 0xC2 0xDF ∷ utf8_tail ∷ []) ∷
    (octet_range 0xE0 0xE0 ∷ octet_range 0xA0 0xBF ∷ utf8_tail ∷ []) ∷
    (octet_range 0xE1 0xEC ∷ utf8_tail ∷ utf8_tail ∷ []) ∷
    (octet_range 0xED 0xED ∷ octet_range 0x80 0x9F ∷ utf8_tail ∷ []) ∷
    (octet_range 0xEE 0xEF ∷ utf8_tail ∷ utf8_tail ∷ []) ∷
    (octet_range 0xF0 0xF0 ∷ octet_range 0x90 0xBF ∷ utf8_tail ∷ utf8_tail ∷ []) ∷
    (octet_range 0xF1 0xF3 ∷ utf8_tail ∷ utf8_tail ∷ utf8_tail ∷ []) ∷
    (octet_range 0xF4 0xF4 ∷ octet_range 0x80 0x8F ∷ utf8_tail ∷ utf8_tail ∷ []) ∷
    []

-- what an octet leaves to follow in its character, or that it cannot stand here
pub data Next : Type 0 where
  follow : List Octets → Next
  bad : Next

-- the first octet of a character: the rest of the row whose first entry holds it (no two rows' first entries share an octet)
unfoldable pub lead : List (List Octets) → ℕ → Next
lead [] b = bad
lead ([] ∷ rows) b = lead rows b
lead ((r ∷ rest) ∷ rows) b = cond (octets_hold r b) (follow rest) (lead rows b)

-- one octet, where `rest` is left of the present character
unfoldable pub octet : List Octets → ℕ → Next
octet [] b = lead chars b
octet (r ∷ rest) b = cond (octets_hold r b) (follow rest) bad

abbrev pub onto : Next → (List Octets → Bool) → Bool
onto (follow rest) k = k rest
onto bad k = false

-- UTF8-octets = *( UTF8-char ), from within a character of which `rest` is left: no octet is out of place, and no character is cut off
unfoldable pub octets : List ℕ → List Octets → Bool
octets [] [] = true
octets [] (r ∷ rest) = false
octets (b ∷ s) rest = onto (octet rest b) (λ next. octets s next)

-- the bytes are UTF-8
abbrev pub utf8 : List ℕ → Bool
utf8 s = octets s []
