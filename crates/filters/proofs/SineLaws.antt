-- The wave's steps: q = p * 1024 and r = q - k are exact, k is below 1024, S is from -1 to 1, and what `sine` answers over the table is S.
use Rattle.std.proofs.Common.{◌≡◌, ℕ, suc, ◌+◌, ◌-◌, ◌*◌, ◌%◌, ◌<◌, ◌≤◌, min, Bool, true, false, cond, not, ◌&&◌, ◌||◌, T, leb, List, ℤ, pos, negsuc, ◌-ℤ◌, neg_ℤ, nat_abs, sym, refl, ap, ◌∙◌, subst, le_trans, le_of_eq, le_refl, lt_of_lt_of_le, lt_of_le_of_lt, le_of_lt, mul-le-mul_right, mod-lt, mul_assoc, mul_comm, div-lt_iff_lt-mul, lt_of_mul-lt-mul_right, mul-lt-mul_of_pos_right, mul-pos, one-mul, mul-one, arith, lit<, lit≤, leb→le}
use lib.Dec.{nleb→lt}
use lib.Ieee.{Float, nan, inf, fin, binary32, round, mul, add, sub, neg, lt, of_int, to_unsigned, fits}
use lib.Ieee.Fits.{mul-fits}
use lib.Ieee.Exact.{HasValue}
use lib.Ieee.Back.{round_whole}
use lib.Ieee.Positive.{num, den, den_pos}
use Rattle.float.specs.inner.Range.{plain, Within, StrictlyWithin, Mag}
use Rattle.float.proofs.Within.{Holds, value-plain, value-cross, value-within, mul-within, lt→cross, cross→lt, le→cross}
use Rattle.float.proofs.Scaled.{scale-value}
use Rattle.float.proofs.Fraction.{fraction-value, whole_is, not-lt}
use Rattle.float.proofs.Unique.{plain-unique}
use Rattle.float.proofs.Bounds.{round-neg, mul-neg, int-within, one-times}
use Rattle.float.proofs.Mag.{within-mag, int-mag, mul-mag, add-mag}
use Rattle.float.specs.F32.{quotient}
use Rattle.wave_table.specs.Wave.{quarter_of, signed_quarter, wave_of, Table}
use Rattle.filters.specs.Wave.{place_of, cell_of, rest_of, line_of, sine_of, quarter_in, signed_in, wave_in, line_in, sine_in}
use Rattle.filters.specs.inner.Ranges.{Phase}
use Rattle.wave_table.proofs.Every.{up_to-is}
use Rattle.wave_table.proofs.Entries.{small}
use Rattle.filters.proofs.Quarters.{wider}
use Rattle.filters.proofs.Apart.{signed, plain-signed, neg-signed, add_apart}

-- p is below 1
under_one : (p : Float) → Phase p → num p < den p
under_one p h = lt_of_le_of_lt (le_of_eq (sym (mul-one (num p)))) (lt_of_lt_of_le h.strict (le_of_eq (one-mul (den p))))

-- LAW: q is exact
pub place-value : (p : Float) → T (fits binary32 p) → Phase p → HasValue (place_of p) false (num p * 1024) (den p)
place-value p t h =
    scale-value binary32 p 10 t h.plain-is (lit< tt)
    (lt_of_lt_of_le (mul-lt-mul_of_pos_right (under_one p h) (lit< tt)) (le_trans (le_of_eq (mul_comm (den p) 1024)) (mul-le-mul_right (den p) (lit≤ tt))))

pub place-below : (p : Float) → T (fits binary32 p) → Phase p → StrictlyWithin 1024 1 (place_of p)
place-below p t h =
    let q = place_of p in
    let v = place-value p t h in
    let c : num q * den p ≡ num p * 1024 * den q = value-cross q (num p * 1024) (den p) v in
    record {
      plain-is = value-plain q (num p * 1024) (den p) v;
      strict = lt_of_mul-lt-mul_right (den p) (lt_of_le_of_lt (le_of_eq (ap (λ (z : ℕ). z * den p) (mul-one (num q)) ∙ c ∙ mul_assoc (num p) 1024 (den q)))
          (lt_of_lt_of_le (mul-lt-mul_of_pos_right (under_one p h) (mul-pos (lit< tt) (den_pos q))) (le_of_eq (mul_comm (den p) (1024 * den q)))));
    }

pub place-within : (p : Float) → T (fits binary32 p) → Phase p → Within 16777216 1 (place_of p)
place-within p t h =
    let b = place-below p t h in
    record { plain-is = b.plain-is; upper = le_trans (le_of_lt b.strict) (mul-le-mul_right (den (place_of p)) (lit≤ tt)) }

-- LAW: r is exact
pub rest-value : (p : Float) → T (fits binary32 p) → Phase p → HasValue (rest_of p) false (num (place_of p) % den (place_of p)) (den (place_of p))
rest-value p t h = fraction-value (place_of p) (mul-fits binary32 p (fin false 1 (pos 10))) (place-within p t h)

-- LAW: k is below 1024
pub cell-lt : (p : Float) → T (fits binary32 p) → Phase p → cell_of p < 1024
cell-lt p t h =
    let q = place_of p in
    lt_of_le_of_lt (le_of_eq (whole_is 64 q (lit≤ tt) (place-within p t h)))
    ((div-lt_iff_lt-mul (den_pos q)).1 (lt_of_le_of_lt (le_of_eq (sym (mul-one (num q)))) (place-below p t h).strict))

-- r is from 0 to 1
pub rest-within : (p : Float) → T (fits binary32 p) → Phase p → Within 1 1 (rest_of p)
rest-within p t h =
    let q = place_of p in
    value-within (rest_of p) (num q % den q) (den q) 1 1 (den_pos q) (lit< tt) (rest-value p t h)
    (le_trans (le_of_eq (mul-one (num q % den q))) (le_trans (le_of_lt (mod-lt (num q) (den_pos q))) (le_of_eq (sym (one-mul (den q))))))

-- ---- S is from -1 to 1
-- Away from 0 the wave's value z and the difference d to the next add up to at most 2^23; towards 0 they have opposite signs, and each is at most 2^23.
abbrev unlike_signs : ℤ → ℤ → Bool
unlike_signs (pos a) (pos b) = false
unlike_signs (pos a) (negsuc b) = true
unlike_signs (negsuc a) (pos b) = true
unlike_signs (negsuc a) (negsuc b) = false

sizes : ℕ → Bool
unfolding wave_of quarter_of
sizes k = leb (nat_abs (wave_of k)) 8388608

steps_small : ℕ → Bool
unfolding wave_of quarter_of
steps_small k = leb (nat_abs (wave_of (k + 1) -ℤ wave_of k)) 8388608

calm : ℕ → Bool
unfolding wave_of quarter_of
calm k = leb (nat_abs (wave_of k) + nat_abs (wave_of (k + 1) -ℤ wave_of k)) 8388608 || unlike_signs (wave_of k) (wave_of (k + 1) -ℤ wave_of k)

size_is : (k : ℕ) → k < 1024 → nat_abs (wave_of k) ≤ 8388608
unfolding sizes wave_of quarter_of
size_is k h = leb→le (nat_abs (wave_of k)) 8388608 (up_to-is sizes 1024 tt k h)

step_is : (k : ℕ) → k < 1024 → nat_abs (wave_of (k + 1) -ℤ wave_of k) ≤ 8388608
unfolding steps_small wave_of quarter_of
step_is k h = leb→le (nat_abs (wave_of (k + 1) -ℤ wave_of k)) 8388608 (up_to-is steps_small 1024 tt k h)

calm-is : (k : ℕ) → k < 1024 → T (leb (nat_abs (wave_of k) + nat_abs (wave_of (k + 1) -ℤ wave_of k)) 8388608 || unlike_signs (wave_of k) (wave_of (k + 1) -ℤ wave_of k))
unfolding calm wave_of quarter_of
calm-is k h = up_to-is calm 1024 tt k h

-- a whole number up to 2^24 is held
whole-holds : (n : ℕ) → n ≤ 16777216 → Holds binary32 n 1
whole-holds n h = round_whole binary32 false n h

int-plain : (n : ℕ) → n ≤ 8388608 → T (plain (of_int binary32 (pos n)))
int-plain n h = (int-within n 8388608 h (lit≤ tt)).plain-is

module _ (r : Float) (R : Within 1 1 r) where
  -- r times a whole number
  times : (z : ℤ) (a : ℕ) → a ≤ 8388608 → nat_abs z ≤ a → Mag a 1 (mul binary32 r (of_int binary32 z))
  times z a A h =
      mul-mag binary32 r (of_int binary32 z) 1 1 a 1 a 1 (lit< tt) (lit< tt) (lit< tt) (whole-holds a (wider a A)) (within-mag 1 1 r R) (int-mag binary32 z a (whole-holds a (wider a A)) h) (one-times a 1)

  -- away from 0
  along : (z d : ℤ) → nat_abs z ≤ 8388608 → nat_abs d ≤ 8388608 → nat_abs z + nat_abs d ≤ 8388608 → Mag 8388608 1 (add binary32 (of_int binary32 z) (mul binary32 r (of_int binary32 d)))
  unfolding round
  along z d Z D h =
      add-mag binary32 (of_int binary32 z) (mul binary32 r (of_int binary32 d)) (nat_abs z) 1 (nat_abs d) 1 8388608 1 (lit< tt) (lit< tt) (lit< tt) (refl, refl)
      (int-mag binary32 z (nat_abs z) (whole-holds (nat_abs z) (wider (nat_abs z) Z)) (le_refl (nat_abs z))) (times d (nat_abs d) D (le_refl (nat_abs d))) (both (nat_abs z) (nat_abs d) h)
    where
      both : (a b : ℕ) → a + b ≤ 8388608 → (a * 1 + b * 1) * 1 ≤ 8388608 * (1 * 1)
      both a b h = omega arith

  neg-int : (n : ℕ) → of_int binary32 (negsuc n) ≡ neg (of_int binary32 (pos (suc n)))
  unfolding of_int
  neg-int n = round-neg binary32 (suc n) 1

  product-plain : (n : ℕ) → n ≤ 8388608 → T (plain (mul binary32 r (of_int binary32 (pos n))))
  product-plain n h =
      (mul-within binary32 r (of_int binary32 (pos n)) 1 1 n 1 n 1 (lit< tt) (lit< tt) (lit< tt) (whole-holds n (wider n h)) R (int-within n n (le_refl n) (wider n h)) (one-times n 1)).plain-is

  product-signed : (n : ℕ) → suc n ≤ 8388608 → T (signed true (mul binary32 r (of_int binary32 (negsuc n))))
  product-signed n h =
      let y = of_int binary32 (pos (suc n)) in
      subst (λ (z : Float). T (signed true z)) (sym (ap (λ (z : Float). mul binary32 r z) (neg-int n) ∙ mul-neg binary32 r y R.plain-is (int-plain (suc n) h)))
      (neg-signed (mul binary32 r y) (plain-signed (mul binary32 r y) (product-plain (suc n) h)))

  -- towards 0
  back : (z d : ℤ) → nat_abs z ≤ 8388608 → nat_abs d ≤ 8388608 → T (unlike_signs z d) → Mag 8388608 1 (add binary32 (of_int binary32 z) (mul binary32 r (of_int binary32 d)))
  unfolding round
  back (pos a) (pos b) Z D u = absurd u
  back (negsuc a) (negsuc b) Z D u = absurd u
  back (pos a) (negsuc b) Z D u =
      add_apart binary32 false (of_int binary32 (pos a)) (mul binary32 r (of_int binary32 (negsuc b))) 8388608 1 (lit< tt) (refl, refl)
      (plain-signed (of_int binary32 (pos a)) (int-plain a Z)) (product-signed b D) (int-mag binary32 (pos a) 8388608 (refl, refl) Z) (times (negsuc b) 8388608 (lit≤ tt) D)
  back (negsuc a) (pos b) Z D u =
      add_apart binary32 true (of_int binary32 (negsuc a)) (mul binary32 r (of_int binary32 (pos b))) 8388608 1 (lit< tt) (refl, refl)
      (subst (λ (z : Float). T (signed true z)) (sym (neg-int a)) (neg-signed (of_int binary32 (pos (suc a))) (plain-signed (of_int binary32 (pos (suc a))) (int-plain (suc a) Z))))
      (plain-signed (mul binary32 r (of_int binary32 (pos b))) (product-plain b D)) (int-mag binary32 (negsuc a) 8388608 (refl, refl) Z) (times (pos b) 8388608 (lit≤ tt) D)

  either : (z d : ℤ) → nat_abs z ≤ 8388608 → nat_abs d ≤ 8388608 → T (leb (nat_abs z + nat_abs d) 8388608 || unlike_signs z d) → Mag 8388608 1 (add binary32 (of_int binary32 z) (mul binary32 r (of_int binary32 d)))
  either z d Z D t = go (leb (nat_abs z + nat_abs d) 8388608) (leb→le (nat_abs z + nat_abs d) 8388608) t
    where
      go : (b : Bool) → (T b → nat_abs z + nat_abs d ≤ 8388608) → T (b || unlike_signs z d) → Mag 8388608 1 (add binary32 (of_int binary32 z) (mul binary32 r (of_int binary32 d)))
      go true h u = along z d Z D (h tt)
      go false h u = back z d Z D u

-- LAW: S is from -1 to 1
pub sine-mag : (p : Float) → T (fits binary32 p) → Phase p → Mag 1 1 (sine_of p)
unfolding sine_of round
sine-mag p t h =
    let k = cell_of p in
    let l : k < 1024 = cell-lt p t h in
    mul-mag binary32 (add binary32 (of_int binary32 (wave_of k)) (mul binary32 (rest_of p) (of_int binary32 (wave_of (k + 1) -ℤ wave_of k)))) (fin false 1 (negsuc 22)) 8388608 1 1 8388608 1 1 (lit< tt) (lit< tt) (lit< tt) (refl, refl)
    (either (rest_of p) (rest-within p t h) (wave_of k) (wave_of (k + 1) -ℤ wave_of k) (size_is k l) (step_is k l) (calm-is k l)) (record { finite-is = tt; upper = lit≤ tt }) (lit≤ tt)

-- ---- what `sine` answers
-- by the comparisons above 0 and below 1 is a phase
pub phase-is : (p : Float) → T (lt (quotient 0 1) p) → T (lt p (quotient 1 1)) → Phase p
unfolding round lt
phase-is nan h g = absurd h
phase-is (inf true) h g = absurd h
phase-is (inf false) h g = absurd g
phase-is (fin true m e) h g = absurd h
phase-is (fin false m e) h g = record { plain-is = tt; strict = lt→cross (fin false m e) (quotient 1 1) tt tt g }

-- a phase is below 1 by the comparison
below_one : (p : Float) → Phase p → T (lt p (quotient 1 1))
unfolding round
below_one p h = cross→lt p (quotient 1 1) h.plain-is tt h.strict

-- and, where it is not above 0, it is 0
not-above : (p : Float) → T (fits binary32 p) → Phase p → lt (quotient 0 1) p ≡ false → p ≡ quotient 0 1
unfolding round fits
not-above p t h l =
    plain-unique binary32 p (quotient 0 1) t tt h.plain-is tt
    (is_zero (num p) (den p) (le→cross p (quotient 0 1) h.plain-is tt (not-lt (quotient 0 1) p tt h.plain-is l)))
  where
    is_zero : (a b : ℕ) → a * 1 ≤ 0 * b → a * 1 ≡ 0 * b
    is_zero a b h = omega arith

-- LAW: S(0) is 0
pub zero-sine : quotient 0 1 ≡ sine_of (quotient 0 1)
unfolding sine_of wave_of quarter_of round mul add sub of_int to_unsigned
zero-sine = refl

module _ (xs : List ℕ) (t : Table xs) where
  quarter-in : (k : ℕ) → k ≤ 256 → quarter_in xs k ≡ quarter_of k
  quarter-in k h = ap (λ (n : ℕ). min n 8388608) (t.entry k h) ∙ kept (quarter_of k) (small k (below k h))
    where
      below : (k : ℕ) → k ≤ 256 → k < 257
      below k h = omega arith

      kept : (n : ℕ) → n ≤ 8388608 → min n 8388608 ≡ n
      kept n h = omega arith

  signed-in : (minus : Bool) (k : ℕ) → k ≤ 256 → signed_in xs minus k ≡ signed_quarter minus k
  signed-in minus k h = ap (λ (n : ℕ). cond minus (neg_ℤ (pos n)) (pos n)) (quarter-in k h)

  -- LAW: over the table W is W
  pub wave-in : (k : ℕ) → k ≤ 1024 → wave_in xs k ≡ wave_of k
  unfolding wave_in wave_of
  wave-in k h = go (leb k 256) (leb k 512) (leb k 768) (leb→le k 256) (leb→le k 768) (nleb→lt k 256) (nleb→lt k 768)
    where
      in2 : (k : ℕ) → 256 < k → 512 - k ≤ 256
      in2 k h = omega arith

      in3 : (k : ℕ) → k ≤ 768 → k - 512 ≤ 256
      in3 k h = omega arith

      in4 : (k : ℕ) → 768 < k → 1024 - k ≤ 256
      in4 k h = omega arith

      go : (a b c : Bool) → (T a → k ≤ 256) → (T c → k ≤ 768) → (T (not a) → 256 < k) → (T (not c) → 768 < k)
          → cond a (signed_in xs false k) (cond b (signed_in xs false (512 - k)) (cond c (signed_in xs true (k - 512)) (signed_in xs true (1024 - k))))
          ≡ cond a (signed_quarter false k) (cond b (signed_quarter false (512 - k)) (cond c (signed_quarter true (k - 512)) (signed_quarter true (1024 - k))))
      go true b c f1 f3 g1 g3 = signed-in false k (f1 tt)
      go false true c f1 f3 g1 g3 = signed-in false (512 - k) (in2 k (g1 tt))
      go false false true f1 f3 g1 g3 = signed-in true (k - 512) (in3 k (f3 tt))
      go false false false f1 f3 g1 g3 = signed-in true (1024 - k) (in4 k (g3 tt))

  -- LAW: over the table the line of a phase is S
  pub line-in : (p : Float) → T (fits binary32 p) → Phase p → line_in xs p ≡ sine_of p
  unfolding line_in sine_of
  line-in p f h =
      let k = cell_of p in
      let l : k < 1024 = cell-lt p f h in
      ap (λ (z : ℤ). line_of p z (wave_in xs (k + 1))) (wave-in k (le_of_lt l)) ∙ ap (λ (z : ℤ). line_of p (wave_of k) z) (wave-in (k + 1) (next k l))
    where
      next : (k : ℕ) → k < 1024 → k + 1 ≤ 1024
      next k l = omega arith

  -- LAW: over the table and of a phase the answer is S
  pub sine-in : (p : Float) → T (fits binary32 p) → Phase p → sine_in xs p ≡ sine_of p
  unfolding sine_in
  sine-in p f h = go (lt (quotient 0 1) p) (lt p (quotient 1 1)) (below_one p h) (not-above p f h)
    where
      go : (a b : Bool) → T b → (a ≡ false → p ≡ quotient 0 1) → cond (a && b) (line_in xs p) (quotient 0 1) ≡ sine_of p
      go true true u v = line-in p f h
      go false true u v = zero-sine ∙ ap sine_of (sym (v refl))
      go a false u v = absurd u
