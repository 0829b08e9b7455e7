-- The lines so far, each with its number, hold what is planned.
use Rattle.std.proofs.Common.{◌≡◌, Ok}
use Rattle.std.specs.List.{fold}
use Rattle.console.specs.Plans.{no_windows, after_line}
use Rattle.console.proofs.plans.read.Given as goal

abbrev pub invariant-loop-above : goal.invariant-loop-above
invariant-loop-above l = fold (λ r p. after_line r p.0 p.1.now) (Ok no_windows) l.yielded ≡ Ok l.planned
