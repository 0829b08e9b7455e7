-- `roots::sqrt_each` meets its contract. Assumes nothing.
use Rattle.std.proofs.Common.{◌≡◌, ℕ, min, List, ◌++◌, length, take, drop, ap, ◌∙◌, arith}
use Rattle.std.specs.Float.{Float}
use Rattle.std.specs.List.{AllZip}
use Rattle.float.specs.Roots.{rooted}
use Rattle.float.specs.inner.Roots.{IsRoot}
use Rattle.float.proofs.Column.{rooted-filled, rooted-least}
use Rattle.float.proofs.roots.sqrt_each.Goals as goal

-- the first k are all that the lists have of the first n
all : (m k n : ℕ) (xs rs ys : List Float) → m ≡ min n (length rs) → k ≡ min m (length xs) → AllZip IsRoot (take k xs) ys → ys ++ drop k rs ≡ rooted n xs rs
all m k n xs rs ys a b u =
    rooted-filled k xs rs ys (omega arith) (omega arith) u ∙ rooted-least k n xs rs (b ∙ ap (λ z. min z (length xs)) a)

pub returns-then-k-le16777216 : goal.returns-then-k-le16777216
returns-then-k-le16777216 c = all _ _ _ _ _ _ c.min.ensures c.min-k.ensures c.each_by_guess.ensures

pub returns-else-k-le16777216 : goal.returns-else-k-le16777216
returns-else-k-le16777216 c = all _ _ _ _ _ _ c.min.ensures c.min-k.ensures c.fill_each.ensures
