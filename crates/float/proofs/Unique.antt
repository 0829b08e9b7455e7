-- A value that its format holds is written in one way: two that fit, and have the same sign and size, are one. So what is exact is an equation.
-- The bit pattern of a float is worked out from its size alone, and gives the float back. Assumes nothing.
use mathlib.Core.Path.{◌≡◌, sym, ap, ◌∙◌}
use Prim.Native.Nat.{ℕ, ◌+◌, ◌-◌, ◌*◌, ◌/◌, ◌^◌}
use native.Mathlib.Nat.{mul_right_comm}
use mathlib.Core.Bool.{Bool, false, cond}
use lib.IntN.{ℤ}
use lib.Dec.{T}
use lib.Ieee.{Float, fin, Format, prec, low, up, down, size, hid, top, round, fits, of_bits, to_bits}
use lib.Ieee.Bits.{of_bits-to_bits}
use lib.Ieee.Exact.{HasValue}
use lib.Ieee.Fits.{down_pos, round-fits}
use lib.Ieee.Nearest.{div_same}
use lib.Ieee.Positive.{num, den}
use Rattle.float.specs.inner.Range.{plain}
use Rattle.float.proofs.Within.{on-plains, value-plain, value-cross, fits-holds}

-- the pattern, from the size in units of the smallest value
abbrev packed : Format → Bool → ℕ → ℕ
packed f s n = cond s (top f) 0 + (size n - prec f) * hid f + n / 2 ^ (size n - prec f)

same_bits : (f : Format) (s : Bool) (m : ℕ) (e : ℤ) (n : ℕ) (d : ℤ) → m * up e * down d ≡ n * up d * down e → to_bits f (fin s m e) ≡ to_bits f (fin s n d)
unfolding to_bits
same_bits f s m e n d h =
    ap (λ (z : ℕ). packed f s z)
    (div_same (m * up e * 2 ^ low f) (down e) (n * up d * 2 ^ low f) (down d) (down_pos e) (down_pos d)
    (mul_right_comm (m * up e) (2 ^ low f) (down d) ∙ ap (λ (z : ℕ). z * 2 ^ low f) h ∙ mul_right_comm (n * up d) (down e) (2 ^ low f)))

pub cross-unique : (f : Format) (s : Bool) (m : ℕ) (e : ℤ) (n : ℕ) (d : ℤ) → T (fits f (fin s m e)) → T (fits f (fin s n d)) → m * up e * down d ≡ n * up d * down e → fin s m e ≡ fin s n d
cross-unique f s m e n d p q h = sym (of_bits-to_bits f (fin s m e) p) ∙ ap (λ (b : ℕ). of_bits f b) (same_bits f s m e n d h) ∙ of_bits-to_bits f (fin s n d) q

pub plain-unique : (f : Format) (x y : Float) → T (fits f x) → T (fits f y) → T (plain x) → T (plain y) → num x * den y ≡ num y * den x → x ≡ y
plain-unique f x y t u p q h =
    on-plains (λ (v w : Float). T (fits f v) → T (fits f w) → num v * den w ≡ num w * den v → v ≡ w) (λ (m : ℕ) (e : ℤ) (n : ℕ) (d : ℤ). cross-unique f false m e n d) x y p q t u h

-- ---- a value rounds to itself
pub round-self : (f : Format) (x : Float) → T (fits f x) → T (plain x) → round f false (num x) (den x) ≡ x
round-self f x t p =
    let r = round f false (num x) (den x) in
    let v : HasValue r false (num x) (den x) = fits-holds f x t p in
    plain-unique f r x (round-fits f false (num x) (den x)) t (value-plain r (num x) (den x) v) p (value-cross r (num x) (den x) v)
