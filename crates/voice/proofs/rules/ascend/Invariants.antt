use Rattle.std.proofs.Common.{◌≡◌, ℕ, ◌+◌, ◌-◌, ◌<◌, ◌≤◌, Bool, get_or, length}
use Rattle.voice.specs.Lists.{every}
use Rattle.voice.proofs.rules.ascend.Given as goal

abbrev pub invariant-loop-i : goal.invariant-loop-i
invariant-loop-i g l =
    (l.i - 1 ≤ length l.xs - 1)
    × ((p : g.row.T.Denot → g.row.T.Denot → Bool) (d : g.row.T.Denot)
    → ((i : ℕ) (r : Bool) → i + 1 < length l.xs → goal.F-post g l.in_order (get_or l.xs i d) (get_or l.xs (i + 1) d) r → r ≡ p (get_or l.xs i d) (get_or l.xs (i + 1) d))
    → l.ok ≡ every (λ i. p (get_or l.xs i d) (get_or l.xs (i + 1) d)) (l.i - 1))
