-- The laws of a column of roots. Assumes nothing.
use mathlib.Core.Path.{◌≡◌, refl, ap}
use mathlib.Core.List.{List, [], ◌∷◌, ◌++◌}
use Prim.Native.Nat.{ℕ, zero, suc, ◌≤◌, ◌<◌, min}
use native.Mathlib.Omega.{arith}
use lib.ListN.{length, take, drop, get_or}
use Rattle.std.specs.List.{AllZip}
use lib.Ieee.{Float, nan}
use Rattle.float.specs.Sqrt.{sqrt}
use Rattle.float.specs.Roots.{rooted}
use Rattle.float.specs.inner.Roots.{IsRoot, Kept}

-- ---- the list by its places
pub length-rooted : (n : ℕ) (xs rs : List Float) → length (rooted n xs rs) ≡ length rs
unfolding rooted
length-rooted zero xs rs = refl
length-rooted (suc n) [] rs = refl
length-rooted (suc n) (x ∷ xs) [] = refl
length-rooted (suc n) (x ∷ xs) (r ∷ rs) = ap suc (length-rooted n xs rs)

-- LAW: what a caller reads at a place below n that both lists have
pub rooted-at : (n i : ℕ) (xs rs : List Float) → i < n → i < length xs → i < length rs → get_or (rooted n xs rs) i nan ≡ sqrt (get_or xs i nan)
unfolding rooted
rooted-at zero i xs rs h k l = absurd (omega arith)
rooted-at (suc n) i [] rs h k l = absurd (omega arith)
rooted-at (suc n) i (x ∷ xs) [] h k l = absurd (omega arith)
rooted-at (suc n) zero (x ∷ xs) (r ∷ rs) h k l = refl
rooted-at (suc n) (suc i) (x ∷ xs) (r ∷ rs) h k l = rooted-at n i xs rs (omega arith) (omega arith) (omega arith)

-- LAW: from n on the places stay
pub rooted-beyond : (n i : ℕ) (xs rs : List Float) → n ≤ i → get_or (rooted n xs rs) i nan ≡ get_or rs i nan
unfolding rooted
rooted-beyond zero i xs rs h = refl
rooted-beyond (suc n) i [] rs h = refl
rooted-beyond (suc n) i (x ∷ xs) [] h = refl
rooted-beyond (suc n) zero (x ∷ xs) (r ∷ rs) h = absurd (omega arith)
rooted-beyond (suc n) (suc i) (x ∷ xs) (r ∷ rs) h = rooted-beyond n i xs rs (omega arith)

-- places that one of the lists lacks make no difference
pub rooted-least : (k n : ℕ) (xs rs : List Float) → k ≡ min (min n (length rs)) (length xs) → rooted k xs rs ≡ rooted n xs rs
unfolding rooted
rooted-least zero zero xs rs e = refl
rooted-least zero (suc n) [] rs e = refl
rooted-least zero (suc n) (x ∷ xs) [] e = refl
rooted-least zero (suc n) (x ∷ xs) (r ∷ rs) e = absurd (omega arith)
rooted-least (suc k) zero xs rs e = absurd (omega arith)
rooted-least (suc k) (suc n) [] rs e = absurd (omega arith)
rooted-least (suc k) (suc n) (x ∷ xs) [] e = absurd (omega arith)
rooted-least (suc k) (suc n) (x ∷ xs) (r ∷ rs) e = ap (λ (t : List Float). sqrt x ∷ t) (rooted-least k n xs rs (omega arith))

-- the roots of the first k, before what stands behind them
pub rooted-filled : (k : ℕ) (xs rs ys : List Float) → k ≤ length xs → k ≤ length rs → AllZip IsRoot (take k xs) ys → ys ++ drop k rs ≡ rooted k xs rs
unfolding rooted
rooted-filled zero xs rs [] a b h = refl
rooted-filled zero xs rs (y ∷ ys) a b h = elim h [ ]
rooted-filled (suc k) [] rs ys a b h = absurd (omega arith)
rooted-filled (suc k) (x ∷ xs) [] ys a b h = absurd (omega arith)
rooted-filled (suc k) (x ∷ xs) (r ∷ rs) [] a b h = elim h [ ]
rooted-filled (suc k) (x ∷ xs) (r ∷ rs) (y ∷ ys) a b (e, h) = rw (e, rooted-filled k xs rs ys (omega arith) (omega arith) h)

-- what holds at every place
pub zipped : (P : Float → Float → Type 0) (xs ys : List Float) → length ys ≡ length xs → ((i : ℕ) → i < length xs → P (get_or xs i nan) (get_or ys i nan)) → AllZip P xs ys
zipped P [] [] e h = tt
zipped P [] (y ∷ ys) e h = absurd (omega arith)
zipped P (x ∷ xs) [] e h = absurd (omega arith)
zipped P (x ∷ xs) (y ∷ ys) e h = (h 0 (omega arith), zipped P xs ys (omega arith) (λ i l. h (suc i) (omega arith)))

-- what was kept where it had to be, and passes the test, are the roots
pub tested : (xs ys : List Float) → AllZip Kept xs ys → AllZip (λ x y. Kept x y → IsRoot x y) xs ys → AllZip IsRoot xs ys
tested [] [] k t = tt
tested [] (y ∷ ys) k t = elim k [ ]
tested (x ∷ xs) [] k t = elim k [ ]
tested (x ∷ xs) (y ∷ ys) (k, ks) (t, ts) = (t k, tested xs ys ks ts)
