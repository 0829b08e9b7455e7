-- The whole part of a root, and the numbers whose root the square root of a float takes. Assumes nothing.
use mathlib.Core.Path.{◌≡◌, sym, ap, ◌∙◌, subst}
use Prim.Native.Nat.{ℕ, zero, suc, ◌+◌, ◌*◌, ◌/◌, ◌%◌, ◌^◌, ◌≤◌, ◌<◌}
use native.Mathlib.Nat.{le_trans, le_antisymm, mul-le-mul, lt_of_not-le, not-le_of_lt, le_of_suc-le-suc, two-pow-succ, add_assoc, mul-add, add-mul, mul-mul-mul_comm}
use native.Mathlib.Omega.{arith}
use mathlib.Core.Logic.{◌⊎◌, inl, inr}
use mathlib.Core.Bool.{Bool, true, false, not, cond}
use lib.Dec.{T, leb, eqb, leb→le, nleb→lt}
use borrow.Author.Tests.{eq-eqb, ne_eqb}
use Rattle.float.specs.Root.{grown, root}
use Rattle.float.specs.Sqrt.{scaled, significand}
use Rattle.float.proofs.Bounds.{le-or-lt}

-- ---- LAW: root n * root n ≤ n < (root n + 1) * (root n + 1)
abbrev pub Root : ℕ → ℕ → Type 0
Root n r = (r * r ≤ n) × (n < (r + 1) * (r + 1))

grown-is : (k r n : ℕ) → r * r ≤ n → n < (r + 2 ^ k) * (r + 2 ^ k) → Root n (grown k r n)
unfolding grown
grown-is zero r n h u = (h, u)
grown-is (suc k) r n h u =
    let a = r + 2 ^ k in
    let e : r + 2 ^ suc k ≡ a + 2 ^ k = ap (λ (z : ℕ). r + z) (two-pow-succ k) ∙ sym (add_assoc r (2 ^ k) (2 ^ k)) in
    go (leb (a * a) n)
    (λ (t : T (leb (a * a) n)). grown-is k a n (leb→le (a * a) n t) (subst (λ (z : ℕ). n < z * z) e u))
    (λ (t : T (not (leb (a * a) n))). grown-is k r n h (nleb→lt (a * a) n t))
  where
    go : (b : Bool) → (T b → Root n (grown k (r + 2 ^ k) n)) → (T (not b) → Root n (grown k r n)) → Root n (grown k (cond b (r + 2 ^ k) r) n)
    go true f g = f tt
    go false f g = g tt

pub root_is : (n : ℕ) → n < 2 ^ 52 → Root n (root n)
unfolding root
root_is n h = grown-is 26 0 n (low n) h
  where
    low : (n : ℕ) → 0 * 0 ≤ n
    low n = omega arith

-- there is one such number
under : (n r s : ℕ) → r * r ≤ n → n < (s + 1) * (s + 1) → r ≤ s
under n r s h u = le_of_suc-le-suc (lt_of_not-le (λ (g : suc s ≤ r). not-le_of_lt u (le_trans (mul-le-mul (up s r g) (up s r g)) h)))
  where
    up : (s r : ℕ) → suc s ≤ r → s + 1 ≤ r
    up s r g = omega arith

pub root-unique : (n r : ℕ) → n < 2 ^ 52 → Root n r → r ≡ root n
root-unique n r h k = let q = root_is n h in le_antisymm (under n r (root n) k.0 q.1) (under n (root n) r q.0 k.1)

-- a root is below a bound whose square is above the number
pub root-lt : (n r b : ℕ) → r * r ≤ n → n < b * b → r < b
root-lt n r b h u = lt_of_not-le (λ (g : b ≤ r). not-le_of_lt u (le_trans (mul-le-mul g g) h))

pub root_ge : (n r b : ℕ) → n < (r + 1) * (r + 1) → b * b ≤ n → b ≤ r
root_ge n r b u h = under n b r h u

-- ---- the number whose root is taken has 49 or 50 digits, and its root 25
pub root-range : (n : ℕ) → 2 ^ 48 ≤ n → n < 2 ^ 50 → (16777216 ≤ root n) × (root n < 33554432)
root-range n l u =
    let r = root_is n (wide n u) in
    (root_ge n (root n) 16777216 r.1 l, root-lt n (root n) 33554432 r.0 u)
  where
    wide : (n : ℕ) → n < 2 ^ 50 → n < 2 ^ 52
    wide n h = omega arith

-- ---- the nearest number: where h * h is within h of n, half the root of 4 n is within 1/2 of h
square-even : (h : ℕ) → 2 * h * (2 * h) ≡ 4 * (h * h)
square-even h = mul-mul-mul_comm 2 h 2 h

pub square-next : (a : ℕ) → (a + 1) * (a + 1) ≡ a * a + 2 * a + 1
square-next a = mul-add (a + 1) a 1 ∙ ap (λ (z : ℕ). z + (a + 1) * 1) (add-mul a 1 a) ∙ rest a (a * a)
  where
    rest : (a s : ℕ) → s + 1 * a + (a + 1) * 1 ≡ s + 2 * a + 1
    rest a s = omega arith

-- at least h, whose double is then the root
over : (n h : ℕ) → n ≤ h * h + h → h * h ≤ n → Root (4 * n) (2 * h)
over n h u l =
    (subst (λ (z : ℕ). z ≤ 4 * n) (sym (square-even h)) (low n (h * h) l), subst (λ (z : ℕ). 4 * n < z) (sym (square-next (2 * h))) (subst (λ (z : ℕ). 4 * n < z + 2 * (2 * h) + 1) (sym (square-even h)) (high n (h * h) h u)))
  where
    low : (n s : ℕ) → s ≤ n → 4 * s ≤ 4 * n
    low n s l = omega arith

    high : (n s h : ℕ) → n ≤ s + h → 4 * n < 4 * s + 2 * (2 * h) + 1
    high n s h u = omega arith

-- below h, and the root is the number before its double
short : (n k : ℕ) → (k + 1) * (k + 1) < n + (k + 1) → n < (k + 1) * (k + 1) → Root (4 * n) (2 * k + 1)
short n k l u =
    let e = square-next k in (
      subst (λ (z : ℕ). z ≤ 4 * n) (sym (square-next (2 * k))) (subst (λ (z : ℕ). z + 2 * (2 * k) + 1 ≤ 4 * n) (sym (square-even k)) (low n (k * k) k (subst (λ (z : ℕ). z < n + (k + 1)) e l))),
      subst (λ (z : ℕ). 4 * n < z) (sym (ap (λ (z : ℕ). z * z) (twice k) ∙ square-even (k + 1))) (high n ((k + 1) * (k + 1)) u),
    )
  where
    low : (n s k : ℕ) → s + 2 * k + 1 < n + (k + 1) → 4 * s + 2 * (2 * k) + 1 ≤ 4 * n
    low n s k l = omega arith

    high : (n s : ℕ) → n < s → 4 * n < 4 * s
    high n s u = omega arith

    twice : (k : ℕ) → 2 * k + 1 + 1 ≡ 2 * (k + 1)
    twice k = omega arith

-- LAW: h is the whole number nearest to the root of n
pub nearest-is : (n h : ℕ) → n < 2 ^ 48 → h * h < n + h → n ≤ h * h + h → h ≡ (root (4 * n) + 1) / 2
nearest-is n h w l u = go h l u (le-or-lt (h * h) n)
  where
    wide : (n : ℕ) → n < 2 ^ 48 → 4 * n < 2 ^ 52
    wide n w = omega arith

    even : (h r : ℕ) → 2 * h ≡ r → h ≡ (r + 1) / 2
    even h r e = omega arith

    odd : (k r : ℕ) → 2 * k + 1 ≡ r → suc k ≡ (r + 1) / 2
    odd k r e = omega arith

    one : (k : ℕ) → suc k ≡ k + 1
    one k = omega arith

    no : (n : ℕ) → 0 * 0 < n + 0 → n < 0 * 0 → ⊥
    no n l u = omega arith

    go : (h : ℕ) → h * h < n + h → n ≤ h * h + h → (h * h ≤ n) ⊎ (n < h * h) → h ≡ (root (4 * n) + 1) / 2
    go h l u (inl g) = even h (root (4 * n)) (root-unique (4 * n) (2 * h) (wide n w) (over n h u g))
    go zero l u (inr g) = absurd (no n l g)
    go (suc k) l u (inr g) =
        odd k (root (4 * n))
        (root-unique (4 * n) (2 * k + 1) (wide n w) (short n k (subst (λ (z : ℕ). z * z < n + z) (one k) l) (subst (λ (z : ℕ). n < z * z) (one k) g)))

-- by the last digit of the exponent's field
pub scaled-even : (b : ℕ) → b / 8388608 % 2 ≡ 0 → scaled b ≡ (b % 8388608 + 8388608) * 67108864
scaled-even b h = ap (λ (t : Bool). (b % 8388608 + 8388608) * cond t 67108864 33554432) (eq-eqb (b / 8388608 % 2) 0 h)

pub scaled-odd : (b : ℕ) → (b / 8388608 % 2 ≡ 0 → ⊥) → scaled b ≡ (b % 8388608 + 8388608) * 33554432
scaled-odd b h = ap (λ (t : Bool). (b % 8388608 + 8388608) * cond t 67108864 33554432) (ne_eqb (b / 8388608 % 2) 0 h)

pub scaled-range : (b : ℕ) → (2 ^ 48 ≤ scaled b) × (scaled b < 2 ^ 50)
scaled-range b = go (eqb (b / 8388608 % 2) 0)
  where
    low : (b : ℕ) → 2 ^ 48 ≤ (b % 8388608 + 8388608) * 33554432
    low b = omega arith

    low2 : (b : ℕ) → 2 ^ 48 ≤ (b % 8388608 + 8388608) * 67108864
    low2 b = omega arith

    high : (b : ℕ) → (b % 8388608 + 8388608) * 33554432 < 2 ^ 50
    high b = omega arith

    high2 : (b : ℕ) → (b % 8388608 + 8388608) * 67108864 < 2 ^ 50
    high2 b = omega arith

    go : (t : Bool) → (2 ^ 48 ≤ (b % 8388608 + 8388608) * cond t 67108864 33554432) × ((b % 8388608 + 8388608) * cond t 67108864 33554432 < 2 ^ 50)
    go true = (low2 b, high2 b)
    go false = (low b, high b)

-- the significand is at most 2 ^ 24
pub significand-small : (b : ℕ) → significand b ≤ 16777216
significand-small b = let s = scaled-range b in half (root (scaled b)) (root-range (scaled b) s.0 s.1).1
  where
    half : (r : ℕ) → r < 33554432 → (r + 1) / 2 ≤ 16777216
    half r h = omega arith

-- a quarter of the number whose root is taken
pub quartered : (n b : ℕ) → 4 * n ≡ scaled b → (n < 2 ^ 48) × (0 < n)
quartered n b e = let s = scaled-range b in go (scaled b) e s.0 s.1
  where
    go : (s : ℕ) → 4 * n ≡ s → 2 ^ 48 ≤ s → s < 2 ^ 50 → (n < 2 ^ 48) × (0 < n)
    go s e l u = (omega arith, omega arith)

-- what `nearest` answers of a quarter is the significand
pub is-significand : (n b h : ℕ) → 4 * n ≡ scaled b → h ≡ (root (4 * n) + 1) / 2 → h ≡ significand b
is-significand n b h e k = k ∙ ap (λ (s : ℕ). (root s + 1) / 2) e
