-- The whole part of the square root of a whole number, bit by bit from the highest: a bit is kept where the square stays within the number.
use Rattle.std.specs.Prelude.{ℕ, zero, suc, ◌+◌, ◌*◌, ◌^◌, cond, leb}

-- r with the bits 2 ^ (k - 1), .., 1 tried in turn
unfoldable pub grown : ℕ → ℕ → ℕ → ℕ
grown zero r n = r
grown (suc k) r n = grown k (cond (leb ((r + 2 ^ k) * (r + 2 ^ k)) n) (r + 2 ^ k) r) n

-- the largest number whose square is at most n, for n below 2 ^ 52
unfoldable pub root : ℕ → ℕ
unfolding grown
root n = grown 26 0 n
