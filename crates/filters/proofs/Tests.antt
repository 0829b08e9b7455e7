-- What comparisons with whole numbers say of a float, of any float: that it is a sample rate.
use Rattle.std.proofs.Common.{◌≡◌, ℕ, ◌*◌, ◌^◌, ◌<◌, true, false, T, eqb, ℤ, pos, le_trans, le_of_eq, lt_of_lt_of_le, lt_irrefl, mul-pos, mul-one, lit<, eqb→eq, pow_pos}
use lib.Ieee.{Float, nan, inf, fin, round, up, down, lt, eq, le}
use lib.Ieee.Fits.{down_pos, and_r}
use Rattle.float.proofs.Within.{le→cross}
use Rattle.float.specs.F32.{quotient}
use Rattle.filters.specs.inner.Ranges.{Rate}

pub positive-not-zero : (a : ℕ) → 0 < a → a ≡ 0 → ⊥
positive-not-zero a h e = lt_irrefl 0 (lt_of_lt_of_le h (le_of_eq e))

-- n * 2 ^ j, a whole number above 0
module _ (n j : ℕ) (N : 0 < n) where
  abbrev level : Float
  level = fin false n (pos j)

  -- what is at least a positive number has no sign, and is no NaN
  not_negative : (m : ℕ) (e : ℤ) → T (le level (fin true m e)) → ⊥
  unfolding le lt eq
  not_negative m e h =
      let a = n * 2 ^ j * down e in
      positive-not-zero a (mul-pos (mul-pos N (pow_pos j)) (down_pos e)) (eqb→eq a 0 (and_r (eqb a (m * up e * 1)) (eqb a 0) h))

-- LAW: from 8,000 to 192,000 by the comparisons is a sample rate
pub rate-is : (x : Float) → T (le (quotient 8000 1) x) → T (le x (quotient 192000 1)) → Rate x
unfolding round le lt eq
rate-is nan h g = absurd h
rate-is (inf true) h g = absurd h
rate-is (inf false) h g = absurd g
rate-is (fin true m e) h g = absurd (not_negative 125 6 (lit< tt) m e h)
rate-is (fin false m e) h g = record {
  lower = le_trans (le→cross (quotient 8000 1) (fin false m e) tt tt h) (le_of_eq (mul-one (m * up e)));
  upper = record { plain-is = tt; upper = le→cross (fin false m e) (quotient 192000 1) tt tt g };
}
