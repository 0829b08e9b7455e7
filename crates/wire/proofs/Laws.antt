-- Laws of the wire's definitions that several proofs cite. Assumes nothing.
use Prim.Native.Nat.{ℕ, zero, suc, ◌+◌, ◌≤◌, ◌<◌}
use mathlib.Core.Path.{◌≡◌, refl, ap, ◌∙◌}
use mathlib.Core.List.{List, []}
use native.Mathlib.Omega.{arith}
use native.Mathlib.Numerals.{add-one}
use lib.ListN.{length, get_or, drop}
use lib.Seq.{drop-cons}
use borrow.Author.Tests.{le-leb}
use Rattle.wire.specs.Utf8.{Octets, Next, follow, lead, octet, onto, octets}

-- LAW: the bytes from i on, by what the byte at i does
pub octets-step : (rest : List Octets) (s : List ℕ) (i : ℕ) → i < length s → octets (drop i s) rest ≡ onto (octet rest (get_or s i 0)) (λ next. octets (drop (i + 1) s) next)
unfolding octets
octets-step rest s i h = rw (drop-cons s i 0 h, add-one) refl

-- a byte below 0x80 is a character of its own
ascii-octet : (b : ℕ) → b < 0x80 → octet [] b ≡ follow []
unfolding octet lead
ascii-octet b h = simp (le-leb b 0x7f (omega arith), le-leb 0x0 b (omega arith))

-- LAW: and n of them, of which none is above b, are passed over
pub octets-plain : (s : List ℕ) (n i b : ℕ) → i + n ≤ length s → b < 0x80 → ((k : ℕ) → k < n → get_or s (i + k) 0 ≤ b) → octets (drop i s) [] ≡ octets (drop (i + n) s) []
octets-plain s zero i b h u f = ap (λ (k : ℕ). octets (drop k s) []) (plus-nothing i)
  where
    plus-nothing : (i : ℕ) → i ≡ i + 0
    plus-nothing i = omega arith
octets-plain s (suc n) i b h u f =
    octets-plain s n i b (omega arith) u (λ (k : ℕ) (l : k < n). f k (omega arith))
    ∙ octets-step [] s (i + n) (omega arith)
    ∙ ap (λ (m : Next). onto m (λ next. octets (drop (i + n + 1) s) next)) (ascii-octet (get_or s (i + n) 0) (below (f n (omega arith)) u))
    ∙ ap (λ (k : ℕ). octets (drop k s) []) (next i n)
  where
    below : {a c : ℕ} → a ≤ c → c < 0x80 → a < 0x80
    below h k = omega arith

    next : (i n : ℕ) → i + n + 1 ≡ i + suc n
    next i n = omega arith
