-- The gains of the steps 0 to 100: the prover works each of them out. Assumes nothing.
use Rattle.std.proofs.Common.{◌≡◌, ℕ, zero, suc, ◌<◌, ◌≤◌, Bool, true, false, ◌&&◌, T, eqb, pos, sym, refl, subst, ⊎_elim, true≢false, eq-or-lt_of_le, arith, eqb→eq}
use lib.Ieee.{fin, binary32, round, mul, div, of_int, of_bits, to_bits, le, lt, eq}
use Rattle.float.specs.F32.{◌⊗◌, quotient}
use Rattle.quiet.specs.Limits.{full_step}
use Rattle.quiet.specs.Window.{step_gain}

-- ---- a test of every number below n
all : (ℕ → Bool) → ℕ → Bool
all test zero = true
all test (suc n) = all test n && test n

both : (a b : Bool) → a && b ≡ true → (a ≡ true) × (b ≡ true)
both true b h = (refl, h)
both false b h = absurd (true≢false (sym h))

all-at : (test : ℕ → Bool) (n i : ℕ) → all test n ≡ true → i < n → test i ≡ true
unfolding all
all-at test zero i h l = absurd (omega arith)
all-at test (suc n) i h l =
    let p = both _ _ h in
    ⊎_elim (λ (q : i ≡ n). rw q p.1) (λ (q : i < n). all-at test n i p.0 q) (eq-or-lt_of_le (omega arith))

-- ---- what is tested of a step
-- it is a float exactly
abbrev exact : ℕ → Bool
exact n = eq (of_int binary32 (pos n)) (fin false n (pos 0))

abbrev nearest : ℕ → Bool
nearest n = eqb (to_bits binary32 (step_gain n)) (to_bits binary32 (quotient n 100))

abbrev in_range : ℕ → Bool
in_range n = le (quotient 0 1) (step_gain n) && le (step_gain n) (quotient 1 1)

abbrev below_next : ℕ → Bool
below_next n = lt (step_gain n) (step_gain (suc n))

tested : all (λ n. exact n && (nearest n && in_range n)) 101 ≡ true
unfolding all step_gain round div of_int of_bits to_bits le lt eq
tested = refl

tested_at : (n : ℕ) → n ≤ full_step → (exact n ≡ true) × (nearest n ≡ true) × (in_range n ≡ true)
tested_at n h =
    let p = both (exact n) (nearest n && in_range n) (all-at (λ n. exact n && (nearest n && in_range n)) 101 n tested (omega arith)) in
    let q = both (nearest n) (in_range n) p.1 in
    (p.0, q.0, q.1)

rising : all below_next 100 ≡ true
unfolding all step_gain round div of_int of_bits le lt
rising = refl

-- ---- the laws
-- LAW: the step becomes a float with nothing lost, so that the division is the one rounding
pub step-exact : (n : ℕ) → n ≤ full_step → eq (of_int binary32 (pos n)) (fin false n (pos 0)) ≡ true
step-exact n h = (tested_at n h).0

-- LAW: its gain is the f32 nearest to its hundredths, bit for bit
pub gain-nearest : (n : ℕ) → n ≤ full_step → to_bits binary32 (step_gain n) ≡ to_bits binary32 (quotient n 100)
gain-nearest n h = eqb→eq _ _ (subst T (sym (tested_at n h).1) tt)

-- LAW: and is from 0 to 1
pub gain-range : (n : ℕ) → n ≤ full_step → (le (quotient 0 1) (step_gain n) ≡ true) × (le (step_gain n) (quotient 1 1) ≡ true)
gain-range n h = both (le (quotient 0 1) (step_gain n)) (le (step_gain n) (quotient 1 1)) (tested_at n h).2

-- LAW: a step more is louder
pub gain-rises : (n : ℕ) → n < full_step → lt (step_gain n) (step_gain (suc n)) ≡ true
gain-rises n h = all-at below_next 100 n rising h

-- step 0 is silence, step 100 full loudness
pub silent-step : step_gain 0 ≡ quotient 0 1
unfolding step_gain round div of_int of_bits
silent-step = refl

pub full-step : step_gain full_step ≡ quotient 1 1
unfolding step_gain round div of_int of_bits
full-step = refl

-- the step times the f32 nearest to 0.01 may be another float: it is for 30 of the steps, of which 5 is the lowest
pub not-hundredth : eqb (to_bits binary32 (step_gain 5)) (to_bits binary32 (of_int binary32 (pos 5) ⊗ quotient 1 100)) ≡ false
unfolding step_gain round mul div of_int of_bits to_bits
not-hundredth = refl
