-- A band's centre is at most half the sample rate, so that the sine and the cosine of its angle are read at phases.
use Rattle.std.proofs.Common.{◌≡◌, ℕ, zero, suc, ◌+◌, ◌-◌, ◌*◌, ◌%◌, ◌^◌, ◌<◌, ◌≤◌, Bool, true, false, cond, ◌&&◌, T, eqb, ltb, leb, pos, negsuc, sym, refl, ap, ◌∙◌, subst, true≢false, le_trans, le_of_eq, lt_of_lt_of_le, lt_of_le_of_lt, le_of_lt, mul_assoc, mul_comm, mul-lt-mul_of_pos_right, mul-pos, one-mul, zero-mul, mul-one, sub-add_cancel, not-le_of_lt, mul_left_comm, arith, lit<, lit≤, ltb→lt, lt→ltb, pow_pos, pow_mono, pow-add, shl_lt}
use lib.Ieee.{Float, nan, inf, fin, binary32, up, down, round, lt, is_nan, fits}
use lib.Ieee.Fits.{down_pos, and_l, and_r}
use lib.Ieee.Exact.{round_exact}
use lib.Ieee.Positive.{num, den, den_pos, through}
use Rattle.float.specs.inner.Range.{plain, Within}
use Rattle.float.specs.Order.{minimum, maximum}
use Rattle.float.proofs.Within.{Holds, round-within, mul_is, mul-within, div-within, add-within, le→cross, pow_le_back}
use Rattle.float.proofs.Finite.{by_cond}
use Rattle.float.proofs.Fraction.{not-lt}
use Rattle.float.specs.F32.{◌⊗◌, quotient}
use Rattle.filters.specs.inner.Ranges.{Phase}
use Rattle.filters.specs.inner.Ranges.{Rate}
use Rattle.filters.specs.Biquad.{turn, turn_quarter, center_of}

-- half of a float that is at least 1 is held
half-holds : (x : Float) → T (fits binary32 x) → T (plain x) → den x ≤ num x → Holds binary32 (num x) (den x * 2)
unfolding fits
half-holds nan t p h = absurd p
half-holds (inf s) t p h = absurd p
half-holds (fin true m e) t p h = absurd p
half-holds (fin false zero e) t p h = absurd (not-le_of_lt (down_pos e) (le_trans h (le_of_eq (zero-mul (up e)))))
half-holds (fin false (suc m) (pos k)) t p h =
    let a : Bool = eqb (suc m % 2) 1 in
    let b : Bool = ltb (suc m) (2 ^ 24) in
    let c : Bool = leb 1 (2 ^ 149) in
    let d : Bool = ltb (suc m * 2 ^ k) (2 ^ 128 * 1) in
    round_exact binary32 false (suc m * 2 ^ k) (1 * 2) (suc m) (k + 148) (lit< tt) (ltb→lt (suc m) (2 ^ 24) (and_r a b (and_l (a && b) c (and_l (a && b && c) d t))))
    (lt_of_le_of_lt (le_of_eq (ap (λ (z : ℕ). suc m * z) (pow-add 2 k 148) ∙ sym (mul_assoc (suc m) (2 ^ k) (2 ^ 148))))
    (lt_of_lt_of_le (mul-lt-mul_of_pos_right (ltb→lt (suc m * 2 ^ k) (2 ^ 128 * 1) (and_r (a && b && c) d t)) (pow_pos 148)) (lit≤ tt)))
    (ap (λ (z : ℕ). suc m * 2 ^ k * z) (pow-add 2 148 1) ∙ simp (pow-add, mul_assoc))
half-holds (fin false (suc m) (negsuc k)) t p h =
    let a : Bool = eqb (suc m % 2) 1 in
    let b : Bool = ltb (suc m) (2 ^ 24) in
    let c : Bool = leb (2 ^ suc k) (2 ^ 149) in
    let d : Bool = ltb (suc m * 1) (2 ^ 128 * 2 ^ suc k) in
    let M : suc m < 2 ^ 24 = ltb→lt (suc m) (2 ^ 24) (and_r a b (and_l (a && b) c (and_l (a && b && c) d t))) in
    let K : suc k ≤ 148 = le_trans (pow_le_back (suc k) 24 (le_of_lt (lt_of_le_of_lt (le_trans h (le_of_eq (mul-one (suc m)))) M))) (lit≤ tt) in
    let j = 148 - suc k in
    round_exact binary32 false (suc m * 1) (2 ^ suc k * 2) (suc m) j (mul-pos (pow_pos (suc k)) (lit< tt)) M
    (lt_of_lt_of_le (shl_lt 24 j M) (pow_mono (room (suc k))))
    (ap (λ (z : ℕ). z * 2 ^ 149) (mul-one (suc m)) ∙ ap (λ (z : ℕ). suc m * (2 ^ z * 2)) (sym (sub-add_cancel K)) ∙ ap (λ (z : ℕ). suc m * (z * 2)) (pow-add 2 j (suc k)) ∙ simp (mul_assoc))
  where
    room : (k : ℕ) → 24 + (148 - k) ≤ 149 + 128
    room k = omega arith

abbrev twenty : Float
twenty = fin false 5 (pos 2)

-- raw is not above m and not below 20
up_to : (raw m : Float) → T (plain m) → is_nan raw ≡ false → lt m raw ≡ false → lt raw twenty ≡ false → T (plain raw) × (num raw * den m ≤ num m * den raw)
unfolding lt is_nan
up_to nan m p n l t = absurd (true≢false n)
up_to (inf true) m p n l t = absurd (true≢false t)
up_to (inf false) nan p n l t = absurd p
up_to (inf false) (inf s) p n l t = absurd p
up_to (inf false) (fin true k e) p n l t = absurd p
up_to (inf false) (fin false k e) p n l t = absurd (true≢false l)
up_to (fin true k e) m p n l t = absurd (subst T t (lt→ltb 0 (k * up e * 1 + 20 * down e) (more (k * up e * 1) (20 * down e) (mul-pos (lit< tt) (down_pos e)))))
  where
    more : (a b : ℕ) → 0 < b → 0 < a + b
    more a b h = omega arith
up_to (fin false k e) m p n l t = (tt, le→cross (fin false k e) m tt p (not-lt m (fin false k e) p tt l))

-- the smaller of raw and m, where it is at least 20
low_end : (P Q : ℕ) (raw m : Float) → Within P Q m → is_nan (minimum raw m) ≡ false → lt (minimum raw m) twenty ≡ false → Within P Q (minimum raw m)
low_end P Q raw m M =
    by_cond (λ (z : Float). is_nan z ≡ false → lt z twenty ≡ false → Within P Q z) (is_nan raw) m (cond (lt m raw) m raw) (λ (e : is_nan raw ≡ true) n t. M)
    (λ (e : is_nan raw ≡ false). by_cond (λ (z : Float). is_nan z ≡ false → lt z twenty ≡ false → Within P Q z) (lt m raw) m raw (λ (l : lt m raw ≡ true) n t. M)
    (λ (l : lt m raw ≡ false) n t.
    let u = up_to raw m M.plain-is n l t in
    record { plain-is = u.0; upper = through (num raw) (num m) P (den raw) (den m) Q (den_pos m) u.1 M.upper }))

-- the larger of that and 20
high_end : (P Q : ℕ) (raw m : Float) → Within P Q m → Within P Q twenty → Within P Q (maximum (minimum raw m) twenty)
high_end P Q raw m M W =
    let a = minimum raw m in
    by_cond (λ (z : Float). Within P Q z) (is_nan a) twenty (cond (lt a twenty) twenty a) (λ (e : is_nan a ≡ true). W)
    (λ (e : is_nan a ≡ false). by_cond (λ (z : Float). Within P Q z) (lt a twenty) twenty a (λ (l : lt a twenty ≡ true). W) (λ (l : lt a twenty ≡ false). low_end P Q raw m M e l))

module _ (rate : Float) (F : T (fits binary32 rate)) (R : Rate rate) where
  at_least_one : den rate ≤ num rate
  at_least_one = le_trans (one (den rate)) R.lower
    where
      one : (d : ℕ) → d ≤ 8000 * d
      one d = omega arith

  held : Holds binary32 (num rate) (den rate * 2)
  held = half-holds rate F R.upper.plain-is at_least_one

  pos-half : 0 < den rate * 2
  pos-half = mul-pos (den_pos rate) (lit< tt)

  -- the rate's half, and 0.9 of that
  nyquist-within : Within (num rate) (den rate * 2) (rate ⊗ quotient 1 2)
  unfolding round
  nyquist-within =
      subst (λ (z : Float). Within (num rate) (den rate * 2) z) (sym (mul_is binary32 rate (quotient 1 2) R.upper.plain-is tt))
      (round-within binary32 (num rate * 1) (den rate * 2) (num rate) (den rate * 2) pos-half pos-half held (le_of_eq (ap (λ (z : ℕ). z * (den rate * 2)) (mul-one (num rate)))))

  limit-within : Within (num rate) (den rate * 2) (rate ⊗ quotient 1 2 ⊗ quotient 9 10)
  unfolding round
  limit-within =
      mul-within binary32 (rate ⊗ quotient 1 2) (quotient 9 10) (num rate) (den rate * 2) 1 1 (num rate) (den rate * 2) pos-half (lit< tt) pos-half held
      nyquist-within (record { plain-is = tt; upper = lit≤ tt }) (le_of_eq (same (num rate) (den rate * 2)))
    where
      same : (a c : ℕ) → a * 1 * c ≡ a * (c * 1)
      same a c = simp (mul-one)

  twenty-within : Within (num rate) (den rate * 2) twenty
  twenty-within = record { plain-is = tt; upper = le_trans (forty (den rate)) (le_trans R.lower (le_of_eq (sym (mul-one (num rate))))) }
    where
      forty : (d : ℕ) → 20 * (d * 2) ≤ 8000 * d
      forty d = omega arith

  -- LAW: the centre is from 0 to half the rate, whatever was asked for
  pub center-within : (raw : Float) → Within (num rate) (den rate * 2) (center_of raw rate)
  unfolding center_of round
  center-within raw = high_end (num rate) (den rate * 2) raw (rate ⊗ quotient 1 2 ⊗ quotient 9 10) limit-within twenty-within

  turn-within : (raw : Float) → Within 1 2 (turn (center_of raw rate) rate)
  unfolding round
  turn-within raw =
      let N : 0 < num rate = lt_of_lt_of_le (den_pos rate) at_least_one in
      div-within binary32 (center_of raw rate) rate (num rate) (den rate * 2) (num rate) (den rate) 1 2 pos-half N (lit< tt) (refl, refl)
      (center-within raw) R.upper.plain-is N (le_of_eq refl) (le_of_eq (half (num rate) (den rate)))
    where
      half : (a d : ℕ) → a * d * 2 ≡ 1 * (d * 2 * a)
      half a d = simp (one-mul, mul_assoc, mul_comm, mul_left_comm)

  -- LAW: the sine and the cosine are read at phases
  pub turn-phase : (raw : Float) → Phase (turn (center_of raw rate) rate)
  turn-phase raw =
      let w = turn-within raw in
      let x = turn (center_of raw rate) rate in
      record { plain-is = w.plain-is; strict = under (num x) (den x) (den_pos x) w.upper }
    where
      under : (n d : ℕ) → 0 < d → n * 2 ≤ 1 * d → n * 1 < 1 * d
      under n d D h = omega arith

  pub turn-quarter-phase : (raw : Float) → Phase (turn_quarter (center_of raw rate) rate)
  unfolding round
  turn-quarter-phase raw =
      let x = turn_quarter (center_of raw rate) rate in
      let w : Within 3 4 x = add-within binary32 (turn (center_of raw rate) rate) (quotient 1 4) 1 2 1 4 3 4 (lit< tt) (lit< tt) (lit< tt) (refl, refl) (turn-within raw) (record { plain-is = tt; upper = lit≤ tt }) (lit≤ tt) in
      record { plain-is = w.plain-is; strict = under (num x) (den x) (den_pos x) w.upper }
    where
      under : (n d : ℕ) → 0 < d → n * 4 ≤ 3 * d → n * 1 < 1 * d
      under n d D h = omega arith
