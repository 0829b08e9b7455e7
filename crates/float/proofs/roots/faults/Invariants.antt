use Rattle.std.proofs.Common.{◌≡◌, ℕ, ◌*◌, ◌<◌, ◌≤◌, length, get_or}
use Rattle.std.specs.Float.{nan}
use Rattle.float.specs.inner.Roots.{Kept, IsRoot}
use Rattle.float.proofs.roots.faults.Given as goal

abbrev pub invariant-loop-x : goal.invariant-loop-x
invariant-loop-x l =
    (l.sum ≤ 2 * length l.yielded) × (l.sum ≡ 0 → (k : ℕ) → k < length l.yielded → Kept (get_or l.xs k nan) (get_or l.roots k nan) → IsRoot (get_or l.xs k nan) (get_or l.roots k nan))
