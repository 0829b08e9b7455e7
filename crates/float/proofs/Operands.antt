-- The square root by the kind of its operand: what the tests of `sqrt` say of x. Assumes nothing.
use mathlib.Core.Path.{◌≡◌, refl, sym, ap, ◌∙◌, subst}
use Prim.Native.Nat.{ℕ, zero, suc, ◌*◌, ◌^◌, ◌<◌}
use native.Mathlib.Nat.{le_of_eq, lt_of_lt_of_le, lt_irrefl, zero-lt-suc, zero-mul, mul-one, mul-pos, not-le_of_lt}
use native.Mathlib.Omega.{arith}
use mathlib.Core.Bool.{Bool, true, false, cond, ◌&&◌, ◌||◌, beq}
use lib.IntN.{ℤ, pos, negsuc}
use lib.Dec.{T, ltb, eqb, ltb→lt, lt→ltb, eqb→eq, not_T, lit<}
use lib.Ieee.{Float, nan, inf, fin, binary32, up, down, lt, le, eq, mul}
use lib.Ieee.Bits.{is_true, is_false}
use lib.Ieee.Fits.{up_pos, and_l}
use lib.Ieee.Positive.{num, positive}
use lib.Ieee.Scale.{finite}
use Rattle.float.specs.inner.Range.{plain}
use Rattle.float.specs.Sqrt.{smallest, normal_root, sqrt, positive_root}
use Rattle.float.specs.inner.Normal.{plus_zero, normal}
use Rattle.float.proofs.Within.{lt→cross}
use Rattle.float.proofs.Finite.{shown}
use Rattle.float.proofs.Subnormal.{normal-from}
use Rattle.float.proofs.Compare.{over-positive}
use Rattle.float.proofs.AtLeast.{at-least-positive}

nothing-below : (a : ℕ) → a < 0 → ⊥
nothing-below a h = omega arith

-- the sizes that the tests compare
zero_left : (e : ℤ) → 0 * 1 * down e ≡ 0
zero_left e = zero-mul (down e)

zero_right : (e : ℤ) → 0 * up e * 1 ≡ 0
zero_right e = mul-one (0 * up e) ∙ zero-mul (up e)

more-right : (m : ℕ) (e : ℤ) → 0 < suc m * up e * 1
more-right m e = lt_of_lt_of_le (mul-pos (zero-lt-suc m) (up_pos e)) (le_of_eq (sym (mul-one (suc m * up e))))

not-above : (e : ℤ) → lt plus_zero (fin false zero e) ≡ true → ⊥
unfolding lt
not-above e h = nothing-below _ (lt_of_lt_of_le (ltb→lt (0 * 1 * down e) (0 * up e * 1) (subst T (sym h) tt)) (le_of_eq (zero_right e)))

is-above : (m : ℕ) (e : ℤ) → lt plus_zero (fin false (suc m) e) ≡ true
unfolding lt
is-above m e = is_true (ltb (0 * 1 * down e) (suc m * up e * 1)) (lt→ltb (0 * 1 * down e) (suc m * up e * 1) (subst (λ (z : ℕ). z < suc m * up e * 1) (sym (zero_left e)) (more-right m e)))

not-level : (s : Bool) (m : ℕ) (e : ℤ) → eq (fin s (suc m) e) plus_zero ≡ true → ⊥
unfolding eq
not-level s m e h =
    let a = suc m * up e * 1 in
    let k : a ≡ 0 = eqb→eq a (0 * 1 * down e) (and_l (eqb a (0 * 1 * down e)) (beq s false || eqb a 0) (subst T (sym h) tt)) ∙ zero_left e in
    lt_irrefl 0 (subst (λ (z : ℕ). 0 < z) k (more-right m e))

pub level-zero : (s : Bool) (e : ℤ) → eq (fin s zero e) plus_zero ≡ true
unfolding eq
level-zero s e = ap (λ (z : ℕ). eqb z (0 * 1 * down e) && (beq s false || eqb z 0)) (zero_right e) ∙ ap (λ (z : ℕ). eqb 0 z && (beq s false || true)) (zero_left e) ∙ last s
  where
    last : (s : Bool) → (true && (beq s false || true)) ≡ true
    last true = refl
    last false = refl

pub level-some : (s : Bool) (m : ℕ) (e : ℤ) → eq (fin s (suc m) e) plus_zero ≡ false
level-some s m e = is_false (eq (fin s (suc m) e) plus_zero) (not_T (eq (fin s (suc m) e) plus_zero) (λ t. not-level s m e (is_true (eq (fin s (suc m) e) plus_zero) t)))

pub true-is-false : {A : Type 0} → true ≡ false → A
true-is-false h = absurd (subst T h tt)

pub sqrt-positive : (x : Float) → lt plus_zero x ≡ true → finite x ≡ true → T (positive x) × (sqrt x ≡ positive_root x)
unfolding lt sqrt
sqrt-positive nan h k = true-is-false (sym k)
sqrt-positive (inf s) h k = true-is-false (sym k)
sqrt-positive (fin true m e) h k = true-is-false (sym h)
sqrt-positive (fin false zero e) h k = absurd (not-above e h)
sqrt-positive (fin false (suc m) e) h k = (lt→ltb 0 (suc m) (zero-lt-suc m), refl)

pub sqrt-infinite : (x : Float) → lt plus_zero x ≡ true → finite x ≡ false → sqrt x ≡ x
unfolding lt sqrt
sqrt-infinite nan h k = true-is-false (sym h)
sqrt-infinite (inf true) h k = true-is-false (sym h)
sqrt-infinite (inf false) h k = refl
sqrt-infinite (fin s m e) h k = true-is-false k

pub sqrt-zero : (x : Float) → eq x plus_zero ≡ true → sqrt x ≡ x
unfolding eq sqrt
sqrt-zero nan h = refl
sqrt-zero (inf s) h = true-is-false (sym h)
sqrt-zero (fin s zero e) h = refl
sqrt-zero (fin s (suc m) e) h = absurd (not-level s m e h)

pub sqrt-none : (x : Float) → lt plus_zero x ≡ false → eq x plus_zero ≡ false → sqrt x ≡ nan
unfolding lt eq sqrt
sqrt-none nan h k = refl
sqrt-none (inf true) h k = refl
sqrt-none (inf false) h k = true-is-false h
sqrt-none (fin s zero e) h k = true-is-false (sym (level-zero s e) ∙ k)
sqrt-none (fin true (suc m) e) h k = refl
sqrt-none (fin false (suc m) e) h k = true-is-false (sym (is-above m e) ∙ h)

-- a positive float is above the zero, and its root is the positive one
pub positive-sqrt : (x : Float) → T (positive x) → sqrt x ≡ positive_root x
unfolding sqrt
positive-sqrt nan p = absurd p
positive-sqrt (inf s) p = absurd p
positive-sqrt (fin true m e) p = absurd p
positive-sqrt (fin false zero e) p = absurd p
positive-sqrt (fin false (suc m) e) p = refl

-- a positive float is no zero, and of the others the root is 0 exactly where they are
pub positive-apart : (x : Float) → T (positive x) → eq x plus_zero ≡ false
positive-apart nan p = absurd p
positive-apart (inf s) p = absurd p
positive-apart (fin true m e) p = absurd p
positive-apart (fin false zero e) p = absurd p
positive-apart (fin false (suc m) e) p = level-some false m e

pub other-alike : (x : Float) → (T (positive x) → ⊥) → eq (sqrt x) plus_zero ≡ eq x plus_zero
unfolding sqrt eq
other-alike nan p = refl
other-alike (inf true) p = refl
other-alike (inf false) p = refl
other-alike (fin s zero e) p = refl
other-alike (fin true (suc m) e) p = sym (level-some true m e)
other-alike (fin false (suc m) e) p = absurd (p (lt→ltb 0 (suc m) (zero-lt-suc m)))

-- ---- between the smallest normal float and the largest of all
abbrev pub largest : Float
largest = fin false 16777215 (pos 104)

between-finite : (x : Float) → le smallest x ≡ true → le x largest ≡ true → T (finite x)
unfolding le lt eq
between-finite nan h k = true-is-false (sym h)
between-finite (inf true) h k = true-is-false (sym h)
between-finite (inf false) h k = true-is-false (sym k)
between-finite (fin s m e) h k = tt

positive-from : (x : Float) → T (plain x) → 0 < num x → T (positive x)
positive-from nan p h = absurd p
positive-from (inf s) p h = absurd p
positive-from (fin true m e) p h = absurd p
positive-from (fin false zero e) p h = absurd (nothing-below _ (lt_of_lt_of_le h (le_of_eq (zero-mul (up e)))))
positive-from (fin false (suc m) e) p h = lt→ltb 0 (suc m) (zero-lt-suc m)

positive-between : (x : Float) → le smallest x ≡ true → le x largest ≡ true → T (positive x)
positive-between x h k =
    let a = over-positive x smallest (between-finite x h k) tt (shown (le smallest x) h) in
    positive-from x a.plain-is (at-least-positive 1 (2 ^ 126) x (lit< tt) a)

positive-above : (x : Float) → T (positive x) → lt plus_zero x ≡ true
positive-above nan p = absurd p
positive-above (inf s) p = absurd p
positive-above (fin true m e) p = absurd p
positive-above (fin false zero e) p = absurd p
positive-above (fin false (suc m) e) p = is-above m e

pub normal-above : (x : Float) → le smallest x ≡ true → le x largest ≡ true → lt plus_zero x ≡ true
normal-above x h k = positive-above x (positive-between x h k)

pub sqrt-normal : (x : Float) → le smallest x ≡ true → le x largest ≡ true → T (normal x) × (sqrt x ≡ normal_root x)
sqrt-normal x h k =
    let a = over-positive x smallest (between-finite x h k) tt (shown (le smallest x) h) in
    let p = a.plain-is in
    let g : lt x smallest ≡ false = is_false (lt x smallest) (not_T (lt x smallest) (λ (t : T (lt x smallest)). not-le_of_lt (lt→cross x smallest p tt t) a.lower)) in
    (normal-from x p g, positive-sqrt x (positive-between x h k) ∙ ap (λ (b : Bool). cond b (mul binary32 (normal_root (mul binary32 x (fin false 1 (pos 24)))) (fin false 1 (negsuc 11))) (normal_root x)) g)
