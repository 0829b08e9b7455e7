-- What it is for a float to be the one nearest to a square root.
use Rattle.std.specs.Prelude.{ℕ, ◌+◌, ◌*◌, ◌^◌, ◌<◌, false, T, Float}
use Rattle.std.specs.Float.{binary32}
use Rattle.std.specs.Float.Ieee.{fits}
use Rattle.std.specs.Float.Ieee.Exact.{HasValue}

-- Sizes are counted in units of 2 ^ -149, the smallest positive float, of which every finite float is a whole number.
-- x is X units, so its root is √(X * 2 ^ 149) units, and r is R units. The middle of r and a float y of Y units is (Y + R) / 2 units.
-- For every y below r the middle is below the root, and for every y above r it is above the root: r is nearer to the root than y.
-- Both are strict, so there is no tie to break. A tie would be a root of 25 binary digits, the last one 1, whose square has more digits
-- than the significand of x.
pub record NearestRoot (x r : Float) : Type 0 where
  pub fits-is : T (fits binary32 r)
  pub X : ℕ
  pub R : ℕ
  pub value : HasValue x false X (2 ^ 149)
  pub result : HasValue r false R (2 ^ 149)
  pub lower : (y : Float) (Y : ℕ) → T (fits binary32 y) → HasValue y false Y (2 ^ 149) → Y < R → (Y + R) * (Y + R) < 4 * (X * 2 ^ 149)
  pub higher : (y : Float) (Y : ℕ) → T (fits binary32 y) → HasValue y false Y (2 ^ 149) → R < Y → 4 * (X * 2 ^ 149) < (Y + R) * (Y + R)
