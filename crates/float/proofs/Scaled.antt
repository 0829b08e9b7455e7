-- A product with a power of two is exact, where it does not overflow. Assumes nothing.
use mathlib.Core.Path.{◌≡◌, sym, ap, ◌∙◌, subst}
use Prim.Native.Nat.{ℕ, zero, suc, ◌+◌, ◌-◌, ◌*◌, ◌^◌, ◌≤◌, ◌<◌}
use native.Mathlib.Nat.{le_of_eq, lt_of_lt_of_le, lt_of_le_of_lt, mul_comm, mul_assoc, mul_right_comm, mul-lt-mul_of_pos_right, mul-one, one-mul, zero-mul, sub-add_cancel, zero-lt-suc, lt_of_mul-lt-mul_right}
use mathlib.Core.Bool.{true, false}
use lib.IntN.{ℤ, pos, negsuc}
use lib.Dec.{T}
use lib.Pow.{pow_pos, pow-add}
use lib.Ieee.{Float, nan, inf, fin, Format, prec, emax, low, up, down, round, mul, fits}
use lib.Ieee.Fits.{down_pos}
use lib.Ieee.Exact.{HasValue, round_exact}
use lib.Ieee.Positive.{num, den, den_pos}
use lib.Ieee.Scale.{round_same}
use Rattle.float.specs.inner.Range.{plain}
use Rattle.float.proofs.Within.{mul_is, fitting, pow_le_back}

-- m * 2 ^ e * 2 ^ t
shifted : (f : Format) (m : ℕ) (e : ℤ) (t : ℕ) → m < 2 ^ prec f → down e ≤ 2 ^ low f → m * up e * 2 ^ t < 2 ^ suc (emax f) * down e → HasValue (round f false (m * up e * 2 ^ t) (down e)) false (m * up e * 2 ^ t) (down e)
shifted f m (pos k) t small l u =
    round_exact f false (m * 2 ^ k * 2 ^ t) 1 m (k + t + low f) (zero-lt-suc 0) small
    (lt_of_le_of_lt (le_of_eq (sym e1))
    (lt_of_lt_of_le (mul-lt-mul_of_pos_right (lt_of_lt_of_le u (le_of_eq (mul-one (2 ^ suc (emax f))))) (pow_pos (low f)))
    (le_of_eq (mul_comm (2 ^ suc (emax f)) (2 ^ low f) ∙ sym (pow-add 2 (low f) (suc (emax f)))))))
    (e1 ∙ sym (mul-one (m * 2 ^ (k + t + low f))))
  where
    e1 : m * 2 ^ k * 2 ^ t * 2 ^ low f ≡ m * 2 ^ (k + t + low f)
    e1 = simp (pow-add, mul_assoc)
shifted f m (negsuc k) t small l u =
    let K : suc k ≤ low f = pow_le_back (suc k) (low f) l in
    let j = low f - suc k in
    let e2 : m * 1 * 2 ^ t * 2 ^ low f ≡ m * 2 ^ (t + j) * 2 ^ suc k =
    ap (λ (z : ℕ). z * 2 ^ t * 2 ^ low f) (mul-one m) ∙ ap (λ (z : ℕ). m * 2 ^ t * 2 ^ z) (sym (sub-add_cancel K)) ∙ simp (pow-add, mul_assoc) in
    round_exact f false (m * 1 * 2 ^ t) (2 ^ suc k) m (t + j) (pow_pos (suc k)) small
    (lt_of_mul-lt-mul_right (2 ^ suc k) (lt_of_le_of_lt (le_of_eq (sym e2))
    (lt_of_lt_of_le (mul-lt-mul_of_pos_right u (pow_pos (low f))) (le_of_eq (mul_right_comm (2 ^ suc (emax f)) (2 ^ suc k) (2 ^ low f) ∙ ap (λ (z : ℕ). z * 2 ^ suc k) (mul_comm (2 ^ suc (emax f)) (2 ^ low f) ∙ sym (pow-add 2 (low f) (suc (emax f)))))))))
    e2

scaled-holds : (f : Format) (x : Float) (t : ℕ) → T (fits f x) → T (plain x) → num x * 2 ^ t < 2 ^ suc (emax f) * den x → HasValue (round f false (num x * 2 ^ t) (den x)) false (num x * 2 ^ t) (den x)
unfolding fits
scaled-holds f nan t g p u = absurd p
scaled-holds f (inf s) t g p u = absurd p
scaled-holds f (fin true m e) t g p u = absurd p
scaled-holds f (fin false zero e) t g p u =
    let z : zero * up e * 2 ^ t ≡ 0 = ap (λ (n : ℕ). n * 2 ^ t) (zero-mul (up e)) ∙ zero-mul (2 ^ t) in
    round_exact f false (zero * up e * 2 ^ t) (down e) zero 0 (down_pos e) (pow_pos (prec f)) (lt_of_le_of_lt (le_of_eq (zero-mul (2 ^ 0))) (pow_pos (low f + suc (emax f))))
    (ap (λ (n : ℕ). n * 2 ^ low f) z ∙ zero-mul (2 ^ low f) ∙ sym (zero-mul (down e)) ∙ ap (λ (n : ℕ). n * down e) (sym (zero-mul (2 ^ 0))))
scaled-holds f (fin false (suc m) e) t g p u =
    let F = fitting f false m e g in
    shifted f (suc m) e t F.short F.fine u

-- LAW: x * 2 ^ t is exact
pub scale-value : (f : Format) (x : Float) (t : ℕ) → T (fits f x) → T (plain x) → 0 < 2 ^ t → num x * 2 ^ t < 2 ^ suc (emax f) * den x → HasValue (mul f x (fin false 1 (pos t))) false (num x * 2 ^ t) (den x)
scale-value f x t g p T2 u =
    subst (λ (z : Float). HasValue z false (num x * 2 ^ t) (den x))
    (sym (mul_is f x (fin false 1 (pos t)) p tt ∙ round_same f false (num x * (1 * 2 ^ t)) (den x * 1) (num x * 2 ^ t) (den x) (lt_of_lt_of_le (den_pos x) (le_of_eq (sym (mul-one (den x))))) (den_pos x)
    (ap (λ (z : ℕ). num x * z * den x) (one-mul (2 ^ t)) ∙ ap (λ (z : ℕ). num x * 2 ^ t * z) (sym (mul-one (den x))))))
    (scaled-holds f x t g p u)
