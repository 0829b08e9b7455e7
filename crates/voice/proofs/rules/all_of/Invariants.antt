use Rattle.std.proofs.Common.{◌≡◌, ℕ, ◌<◌, Bool, get_or, length}
use Rattle.voice.specs.Lists.{every}
use Rattle.voice.proofs.rules.all_of.Given as goal

abbrev pub invariant-loop-x : goal.invariant-loop-x
invariant-loop-x g l =
    (p : g.row.T.Denot → Bool) (d : g.row.T.Denot) → ((i : ℕ) (r : Bool) → i < length l.xs → goal.F-post g l.test (get_or l.xs i d) r → r ≡ p (get_or l.xs i d)) → l.ok ≡ every (λ i. p (get_or l.xs i d)) l.x-index
