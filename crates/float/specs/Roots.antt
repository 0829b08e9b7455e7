-- The roots of a column of floats.
use Rattle.std.specs.Prelude.{ℕ, zero, suc, List, [], ◌∷◌, Float}
use Rattle.float.specs.Sqrt.{sqrt}

-- rs with the roots of the first n of xs in its first n places; where one of the two lists is shorter than n, as many as both have
unfoldable pub rooted : ℕ → List Float → List Float → List Float
rooted zero xs rs = rs
rooted (suc n) [] rs = rs
rooted (suc n) (x ∷ xs) [] = []
rooted (suc n) (x ∷ xs) (r ∷ rs) = sqrt x ∷ rooted n xs rs
