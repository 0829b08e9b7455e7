-- The noise: a quotient by 2^31 is a product with 2^-31, and the output is from -1 to 1.
use Rattle.std.proofs.Common.{◌≡◌, ℕ, suc, ◌+◌, ◌-◌, ◌*◌, ◌^◌, ◌<◌, ◌≤◌, Bool, true, false, cond, not, T, ltb, pos, negsuc, nat_abs, sym, refl, ap, subst, mod-lt, mul_comm, arith, w32, to_z, lit<, lit≤, ltb→lt, nltb→le}
use lib.Ieee.{Float, nan, inf, fin, binary32, up, down, unlike, round, of_int, mul, div}
use Rattle.float.specs.inner.Range.{Mag}
use Rattle.float.proofs.Mag.{int-mag, mul-mag}
use Rattle.filters.specs.Rng.{stepped, signed_of, bipolar_of, next_bipolar}
use Rattle.filters.specs.declared.rng.Rng.{Rng}

-- the bits of a state, read as the library's signed number
pub signed-is : (n : ℕ) → to_z w32 n ≡ signed_of n
signed-is n = ap (λ (k : ℕ). cond (ltb n 2147483648) (pos n) (negsuc k)) (less n)
  where
    less : (n : ℕ) → 2 ^ 32 - suc n ≡ 4294967295 - n
    less n = omega arith

-- LAW: x / 2^31 is x * 2^-31, for every float
pub quotient-is-product : (x : Float) → div binary32 x (fin false 1 (pos 31)) ≡ mul binary32 x (fin false 1 (negsuc 30))
unfolding div mul
quotient-is-product nan = refl
quotient-is-product (inf s) = refl
quotient-is-product (fin s m e) = ap (λ (n : ℕ). round binary32 (unlike s false) (m * up e * 1) n) (mul_comm 2147483648 (down e))

signed-abs : (n : ℕ) → n < 2 ^ 32 → nat_abs (signed_of n) ≤ 2147483648
signed-abs n h = go (ltb n 2147483648) (ltb→lt n 2147483648) (nltb→le n 2147483648)
  where
    low : (n : ℕ) → n < 2147483648 → n ≤ 2147483648
    low n h = omega arith

    high : (n : ℕ) → 2147483648 ≤ n → suc (4294967295 - n) ≤ 2147483648
    high n h = omega arith

    go : (b : Bool) → (T b → n < 2147483648) → (T (not b) → 2147483648 ≤ n) → nat_abs (cond b (pos n) (negsuc (4294967295 - n))) ≤ 2147483648
    go true f g = low n (f tt)
    go false f g = high n (g tt)

-- a state's float is from -1 to 1
pub bipolar-mag : (s : ℕ) → s < 2 ^ 32 → Mag 1 1 (bipolar_of s)
unfolding round bipolar_of
bipolar-mag s h =
    subst (λ (z : Float). Mag 1 1 z) (sym (quotient-is-product (of_int binary32 (signed_of s))))
    (mul-mag binary32 (of_int binary32 (signed_of s)) (fin false 1 (negsuc 30)) 2147483648 1 1 2147483648 1 1 (lit< tt) (lit< tt) (lit< tt) (refl, refl)
    (int-mag binary32 (signed_of s) 2147483648 (refl, refl) (signed-abs s h)) (record { finite-is = tt; upper = lit≤ tt }) (lit≤ tt))

-- LAW: the output is from -1 to 1
pub next-bipolar-mag : (g : Rng) → Mag 1 1 (next_bipolar g).value
next-bipolar-mag g = bipolar-mag (stepped g.state) (mod-lt (g.state * 1664525 + 1013904223) (lit< tt))
