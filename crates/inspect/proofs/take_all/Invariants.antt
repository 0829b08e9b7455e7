use Rattle.std.proofs.Common.{◌≤◌}
use Rattle.inspect.proofs.take_all.Given as goal

abbrev pub invariant-loop-i : goal.invariant-loop-i
invariant-loop-i g l = l.bad ≤ l.i
