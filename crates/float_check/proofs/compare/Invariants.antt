-- No more are wrong than there were.
use Rattle.std.proofs.Common.{◌≤◌}
use Rattle.float_check.proofs.compare.Given as goal

abbrev pub invariant-loop-case : goal.invariant-loop-case
invariant-loop-case g l = l.wrong ≤ l.case-index
