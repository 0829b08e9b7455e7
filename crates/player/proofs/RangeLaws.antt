-- What the voice rules say of the floats of a voice. A phase or a stretch of -0 passes them: it counts as 0.
use mathlib.Core.Path.{◌≡◌, refl, sym, ap, ◌∙◌, subst}
use mathlib.Core.Logic.{◌⊎◌, inl, inr}
use mathlib.Core.List.{List}
use lib.ListN.{get_or}
use Prim.Native.Nat.{ℕ, zero, suc, ◌+◌, ◌-◌, ◌*◌, ◌≤◌, ◌<◌}
use native.Mathlib.Nat.{le_of_lt, mul-pos, zero-mul, mul_assoc, mul_comm, mul_left_comm, zero-add}
use native.Mathlib.Omega.{arith}
use mathlib.Core.Bool.{Bool, true, false, ◌&&◌, cond}
use lib.IntN.{ℤ, pos}
use lib.Dec.{T, ltb, lt→ltb, eqb, eqb→eq, lit≤, lit<}
use lib.Ieee.{Float, nan, inf, fin, Format, binary32, up, down, round, sum, add, sub, mul, neg, lt, le, eq, fits}
use lib.Ieee.Fits.{up_pos, down_pos, and_l}
use lib.Ieee.Positive.{num, den, den_pos}
use lib.Ieee.Bits.{is_true}
use Rattle.filters.proofs.Tests.{positive-not-zero}
use Rattle.float.proofs.Finite.{shown}
use Rattle.float.specs.inner.Range.{plain, Within, AtMost}
use Rattle.float.specs.Lerp.{lerp}
use Rattle.float.specs.Fraction.{fraction}
use Rattle.float.proofs.Within.{Holds, on-plain, le→cross, lt→cross, cross→le, cross→lt, add-within, mul-within, sub_within, fits-holds}
use Rattle.float.proofs.Bounds.{le-or-lt, up-to-self, round-neg, mul-neg, add-neg, one-times}
use Rattle.float.proofs.Fraction.{widen}
use Rattle.float.specs.F32.{◌⊕◌, quotient}
use Rattle.player.specs.Phase.{advance_of, step_of}
use Rattle.player.specs.inner.Ranges.{Phase, Step}
use Rattle.voice.specs.Lists.{map_to}
use Rattle.voice.specs.Voice.{phase_ok, pitch_ok, stretch_ok, phases_ok}
use Rattle.player.specs.Sound.{partial_row}
use Rattle.player.specs.declared.pitch.bracket.Sides.{Sides}
use Rattle.voice.proofs.Loops.{both_true, every-at, map_to-read}
use Rattle.player.proofs.PhaseLaws.{sum-within, advance-phase, freq-within, stretch-within}

-- ---- what is at least 0
no_sign : (m : ℕ) (e : ℤ) → T (le (quotient 0 1) (fin true (suc m) e)) → ⊥
unfolding round le lt eq
no_sign m e h =
    let a = suc m * up e * 1 in
    positive-not-zero a (mul-pos (mul-pos (lit-pos m) (up_pos e)) (lit< tt)) (sym (eqb→eq (0 * down e) a (and_l (eqb (0 * down e) a) (eqb (0 * down e) 0) h)) ∙ zero-mul (down e))
  where
    lit-pos : (m : ℕ) → 0 < suc m
    lit-pos m = omega arith

phase-or : (p : Float) → T (le (quotient 0 1) p) → T (lt p (quotient 1 1)) → Phase p ⊎ ((e : ℤ) × (p ≡ fin true 0 e))
unfolding round le lt eq
phase-or nan h g = absurd h
phase-or (inf true) h g = absurd h
phase-or (inf false) h g = absurd g
phase-or (fin false m e) h g = inl (record { plain-is = tt; strict = lt→cross (fin false m e) (quotient 1 1) tt tt g })
phase-or (fin true zero e) h g = inr (e, refl)
phase-or (fin true (suc m) e) h g = absurd (no_sign m e h)

stretch-or : (s : Float) → T (le (quotient 0 1) s) → T (le s (quotient 4 1)) → Within 4 1 s ⊎ ((e : ℤ) × (s ≡ fin true 0 e))
unfolding round le lt eq
stretch-or nan h g = absurd h
stretch-or (inf true) h g = absurd h
stretch-or (inf false) h g = absurd g
stretch-or (fin false m e) h g = inl (record { plain-is = tt; upper = le→cross (fin false m e) (quotient 4 1) tt tt g })
stretch-or (fin true zero e) h g = inr (e, refl)
stretch-or (fin true (suc m) e) h g = absurd (no_sign m e h)

-- LAW: a pitch is from 0 to 20,000
pitch-is : (f : Float) → T (lt (quotient 0 1) f) → T (le f (quotient 20000 1)) → Within 20000 1 f
unfolding round le lt eq
pitch-is nan h g = absurd h
pitch-is (inf true) h g = absurd h
pitch-is (inf false) h g = absurd g
pitch-is (fin false m e) h g = record { plain-is = tt; upper = le→cross (fin false m e) (quotient 20000 1) tt tt g }
pitch-is (fin true m e) h g = absurd h

pub pitch-within : (f : Float) → pitch_ok f ≡ true → Within 20000 1 f
pitch-within f h = let p = both_true (lt (quotient 0 1) f) (le f (quotient 20000 1)) h in pitch-is f (shown _ p.0) (shown _ p.1)

-- of two floats with no sign, the one that is not at most the other is above it
pub not-le : (x y : Float) → T (plain x) → T (plain y) → le x y ≡ false → T (lt y x)
not-le x y p q h = go (le-or-lt (num x * den y) (num y * den x))
  where
    go : (num x * den y ≤ num y * den x) ⊎ (num y * den x < num x * den y) → T (lt y x)
    go (inl l) = absurd (subst T h (cross→le x y p q l))
    go (inr l) = cross→lt y x q p l

-- ---- a sum with -0
taken : (b : Bool) (x y : Float) → T b → cond b x y ≡ x
taken true x y h = refl
taken false x y h = absurd h

nothing-more : (f : Format) (a b d : ℕ) → a ≡ 0 → cond (ltb a b) (round f false (b - a) d) (round f (true && ltb b a) (a - b) d) ≡ round f false (a + b) d
nothing-more f a b d e = subst (λ (x : ℕ). cond (ltb x b) (round f false (b - x) d) (round f (true && ltb b x) (x - b) d) ≡ round f false (x + b) d) (sym e) (go b)
  where
    above : (b : ℕ) → 0 < suc b
    above b = omega arith

    same : (b : ℕ) → suc b - 0 ≡ 0 + suc b
    same b = omega arith

    go : (b : ℕ) → cond (ltb 0 b) (round f false (b - 0) d) (round f (true && ltb b 0) (0 - b) d) ≡ round f false (0 + b) d
    go zero = refl
    go (suc b) =
        taken (ltb 0 (suc b)) (round f false (suc b - 0) d) (round f (true && ltb (suc b) 0) (0 - suc b) d) (lt→ltb 0 (suc b) (above b))
        ∙ ap (λ (z : ℕ). round f false z d) (same b)

-- LAW: -0 + y is 0 + y, where y has no sign
pub minus-zero-plus : (f : Format) (e : ℤ) (y : Float) → T (plain y) → add f (fin true 0 e) y ≡ add f (fin false 0 e) y
unfolding add sum
minus-zero-plus f e y p =
    on-plain (λ (z : Float). add f (fin true 0 e) z ≡ add f (fin false 0 e) z)
    (λ (n : ℕ) (d : ℤ). nothing-more f (0 * up e * down d) (n * up d * down e) (down e * down d) (zero-product (up e) (down d))) y p
  where
    zero-product : (a b : ℕ) → 0 * a * b ≡ 0
    zero-product a b = rw (zero-mul, zero-mul)

zero-within : (a c : ℕ) (e : ℤ) → Within a c (fin false 0 e)
zero-within a c e = record { plain-is = tt; upper = zero-under (up e) c (a * down e) }
  where
    zero-under : (a b c : ℕ) → 0 * a * b ≤ c
    zero-under a b c = rw (zero-mul, zero-mul) (omega arith)

zero-phase : (e : ℤ) → Phase (fin false 0 e)
zero-phase e = record { plain-is = tt; strict = zero-below (up e) (down e) (down_pos e) }
  where
    zero-below : (a d : ℕ) → 0 < d → 0 * a * 1 < 1 * d
    zero-below a d h = omega arith

-- a phase that passes the test, and one with no sign that sums to the same
plain-phase : (p inc : Float) → phase_ok p ≡ true → Step inc → (q : Float) × Phase q × (p ⊕ inc ≡ q ⊕ inc)
plain-phase p inc h i = let t = both_true (le (quotient 0 1) p) (lt p (quotient 1 1)) h in go (phase-or p (shown _ t.0) (shown _ t.1))
  where
    go : Phase p ⊎ ((e : ℤ) × (p ≡ fin true 0 e)) → (q : Float) × Phase q × (p ⊕ inc ≡ q ⊕ inc)
    go (inl P) = (p, P, refl)
    go (inr z) = (fin false 0 z.0, zero-phase z.0, ap (λ (t : Float). t ⊕ inc) z.1 ∙ minus-zero-plus binary32 z.0 inc i.plain-is)

-- LAW: the sum of a phase and a step
pub sum-up-to : (p inc : Float) → phase_ok p ≡ true → Step inc → Within 1048577 1 (p ⊕ inc)
sum-up-to p inc h i = let q = plain-phase p inc h i in subst (λ (z : Float). Within 1048577 1 z) (sym q.2) (sum-within q.0 inc q.1 i)

pub sum-ok : (p inc : Float) → phase_ok p ≡ true → Step inc → Within 16777216 1 (p ⊕ inc)
sum-ok p inc h i = widen 1048577 16777216 (p ⊕ inc) (lit≤ tt) (sum-up-to p inc h i)

-- LAW: a phase and a step of at most 31/32 sum to less than 2
pub sum-under-two : (p inc : Float) → phase_ok p ≡ true → Step inc → le inc (quotient 31 32) ≡ true → T (lt (p ⊕ inc) (fin false 1 (pos 1)))
unfolding round
sum-under-two p inc h i l =
    let q = plain-phase p inc h i in
    let x = q.0 ⊕ inc in
    let I : Within 31 32 inc = record { plain-is = i.plain-is; upper = le→cross inc (quotient 31 32) i.plain-is tt (shown _ l) } in
    let W : Within 63 32 x = add-within binary32 q.0 inc 1 1 31 32 63 32 (lit< tt) (lit< tt) (lit< tt) (refl, refl) (record { plain-is = q.1.plain-is; upper = le_of_lt q.1.strict }) I (lit≤ tt) in
    subst (λ (z : Float). T (lt z (fin false 1 (pos 1)))) (sym q.2) (cross→lt x (fin false 1 (pos 1)) W.plain-is tt (under (num x) (den x) (den_pos x) W.upper))
  where
    under : (n d : ℕ) → 0 < d → n * 32 ≤ 63 * d → n * 1 < 2 * d
    under n d D h = omega arith

-- LAW: a phase that passes the test steps to one with no sign
pub advance-ok : (p inc : Float) → phase_ok p ≡ true → Step inc → Phase (advance_of p inc)
advance-ok p inc h i =
    let q = plain-phase p inc h i in
    subst (λ (z : Float). Phase z) (sym (ap (λ (z : Float). fraction z) q.2)) (advance-phase q.0 inc q.1 i)

-- LAW: a phase with no sign passes the test
pub phase-passes : (p : Float) → Phase p → phase_ok p ≡ true
unfolding round
phase-passes p P =
    rw (is_true (le (quotient 0 1) p) (cross→le (quotient 0 1) p tt P.plain-is (zero-under (den p) (num p * 1))), is_true (lt p (quotient 1 1)) (cross→lt p (quotient 1 1) P.plain-is tt P.strict))
  where
    zero-under : (a b : ℕ) → 0 * a ≤ b
    zero-under a b = rw zero-mul (omega arith)

-- LAW: the step of a partial's phase, by 1 / rate
pub step_small : (m : ℕ) (f0 stretch inv : Float) → m ≤ 32 → Within 20000 1 f0 → Within 8 1 stretch → Within 1 4096 inv → Step (step_of m f0 stretch inv)
unfolding round
step_small m f0 stretch inv M F S I =
    widen 1250 1048576 (step_of m f0 stretch inv) (lit≤ tt)
    (mul-within binary32 _ _ 5120000 1 1 4096 1250 1 (lit< tt) (lit< tt) (lit< tt) (refl, refl) (freq-within m f0 stretch M F S) I (lit≤ tt))

-- ---- a stretch between two that pass the test
-- -0 - lo is -(0 + lo)
zero-less : (f : Format) (e : ℤ) (x : Float) → T (plain x) → sub f (fin true 0 e) x ≡ neg (add f (fin false 0 e) x)
unfolding sub add sum neg
zero-less f e x p =
    on-plain (λ (z : Float). sub f (fin true 0 e) z ≡ neg (add f (fin false 0 e) z))
    (λ (n : ℕ) (d : ℤ). round-neg f (0 * up e * down d + n * up d * down e) (down e * down d)) x p

less_zero : (f : Format) (e : ℤ) (x : Float) → sub f x (fin true 0 e) ≡ add f x (fin false 0 e)
unfolding sub neg
less_zero f e x = refl

-- from a stretch with no sign to -0
down_to : (lo t : Float) (e : ℤ) → T (fits binary32 lo) → Within 4 1 lo → Within 1 1 t → Within 8 1 (lerp lo (fin true 0 e) t)
unfolding round
down_to lo t e F L S =
    let u = add binary32 (fin false 0 e) lo in
    let D = den_pos lo in
    let self : Holds binary32 (num lo) (den lo) = fits-holds binary32 lo F L.plain-is in
    let U : AtMost lo u = add-within binary32 (fin false 0 e) lo 0 1 (num lo) (den lo) (num lo) (den lo) (lit< tt) D D self (zero-within 0 1 e) (up-to-self lo L.plain-is) (alone (num lo) (den lo)) in
    let W : AtMost lo (mul binary32 t u) = mul-within binary32 t u 1 1 (num lo) (den lo) (num lo) (den lo) (lit< tt) D D self S U (one-times (num lo) (den lo)) in
    let q : lerp lo (fin true 0 e) t ≡ sub binary32 lo (mul binary32 t u) =
    ap (λ (z : Float). add binary32 lo (mul binary32 t z)) (zero-less binary32 e lo L.plain-is)
    ∙ ap (λ (z : Float). add binary32 lo z) (mul-neg binary32 t u S.plain-is U.plain-is)
    ∙ add-neg binary32 lo (mul binary32 t u) in
    subst (λ (z : Float). Within 8 1 z) (sym q) (sub_within binary32 lo (mul binary32 t u) 4 1 8 1 (lit< tt) (lit< tt) (refl, refl) L W.plain-is W.upper (lit≤ tt))
  where
    alone : (a d : ℕ) → (0 * d + a * 1) * d ≤ a * (1 * d)
    alone a d = simp (zero-mul, zero-add, mul_assoc, mul_comm, mul_left_comm) (omega arith)

-- from -0 up
up_from : (t d : Float) (e : ℤ) → Within 4 1 d → Within 1 1 t → Within 8 1 (add binary32 (fin true 0 e) (mul binary32 t d))
unfolding round
up_from t d e W S =
    let y = mul binary32 t d in
    let Y : Within 4 1 y = mul-within binary32 t d 1 1 4 1 4 1 (lit< tt) (lit< tt) (lit< tt) (refl, refl) S W (lit≤ tt) in
    subst (λ (z : Float). Within 8 1 z) (sym (minus-zero-plus binary32 e y Y.plain-is))
    (add-within binary32 (fin false 0 e) y 0 1 4 1 8 1 (lit< tt) (lit< tt) (lit< tt) (refl, refl) (zero-within 0 1 e) Y (lit≤ tt))

from_zero : (hi : Float) (e : ℤ) → Within 4 1 hi ⊎ ((g : ℤ) × (hi ≡ fin true 0 g)) → Within 4 1 (sub binary32 hi (fin true 0 e))
unfolding round
from_zero hi e (inl H) =
    subst (λ (z : Float). Within 4 1 z) (sym (less_zero binary32 e hi))
    (add-within binary32 hi (fin false 0 e) 4 1 0 1 4 1 (lit< tt) (lit< tt) (lit< tt) (refl, refl) H (zero-within 0 1 e) (lit≤ tt))
from_zero hi e (inr z) =
    subst (λ (t : Float). Within 4 1 t) (sym (ap (λ (t : Float). sub binary32 t (fin true 0 e)) z.1 ∙ less_zero binary32 e (fin true 0 z.0) ∙ minus-zero-plus binary32 z.0 (fin false 0 e) tt))
    (add-within binary32 (fin false 0 z.0) (fin false 0 e) 0 1 0 1 4 1 (lit< tt) (lit< tt) (lit< tt) (refl, refl) (zero-within 0 1 z.0) (zero-within 0 1 e) (lit≤ tt))

-- LAW: a stretch between two that pass the test, -0 among them, is from 0 to 8 after rounding
pub stretch-ok-within : (lo hi t : Float) → T (fits binary32 lo) → stretch_ok lo ≡ true → stretch_ok hi ≡ true → Within 1 1 t → Within 8 1 (lerp lo hi t)
stretch-ok-within lo hi t F l h S =
    let a = both_true (le (quotient 0 1) lo) (le lo (quotient 4 1)) l in
    let b = both_true (le (quotient 0 1) hi) (le hi (quotient 4 1)) h in
    go (stretch-or lo (shown _ a.0) (shown _ a.1)) (stretch-or hi (shown _ b.0) (shown _ b.1))
  where
    go : Within 4 1 lo ⊎ ((e : ℤ) × (lo ≡ fin true 0 e)) → Within 4 1 hi ⊎ ((e : ℤ) × (hi ≡ fin true 0 e)) → Within 8 1 (lerp lo hi t)
    go (inl L) (inl H) = stretch-within lo hi t F L H S
    go (inl L) (inr z) = subst (λ (x : Float). Within 8 1 (lerp lo x t)) (sym z.1) (down_to lo t z.0 F L S)
    go (inr z) o = subst (λ (x : Float). Within 8 1 (lerp x hi t)) (sym z.1) (up_from t (sub binary32 hi (fin true 0 z.0)) z.0 (from_zero hi z.0 o) S)

-- a turn of the loop over the phases reads a phase that is still as it was
pub turn-phase : (f : ℕ → Float → Float) (ps ls : List Float) (m i : ℕ) → phases_ok ps m ≡ true → i < m → ls ≡ map_to f 0 i ps → phase_ok (get_or ls i nan) ≡ true
unfolding phases_ok
turn-phase f ps ls m i h l e = ap (λ (z : Float). phase_ok z) (map_to-read f nan i ps ls e) ∙ every-at (λ i. phase_ok (get_or ps i nan)) m i h l

-- channel 0's coefficient for partial i
pub row_first : (ps : List Float) (s : Sides) (i : ℕ) → lerp (get_or ps (s.lo * 128 + i) nan) (get_or ps (s.hi * 128 + i) nan) s.t ≡ partial_row ps s 0 i
row_first ps s i = rw (zero-add i)
