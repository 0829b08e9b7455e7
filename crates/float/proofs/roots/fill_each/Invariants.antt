use Rattle.std.proofs.Common.{◌≡◌, ℕ, ◌<◌, length, get_or}
use Rattle.std.specs.Float.{nan}
use Rattle.float.proofs.roots.fill_each.Given as goal

abbrev pub invariant-loop-i : goal.invariant-loop-i
invariant-loop-i g l =
    (length l.roots ≡ length l.xs) × ((k : ℕ) → k < l.i → goal.F-post g l.f (get_or l.xs k nan) (get_or l.roots k nan))
