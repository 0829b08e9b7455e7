use Rattle.std.proofs.Common.{◌≡◌, ◌*◌, ◌^◌}
use Rattle.console.specs.Fixed.{total, InLimbs}
use Rattle.console.proofs.fixed.shifted.Given as goal

abbrev pub invariant-loop-i : goal.invariant-loop-i
invariant-loop-i l = InLimbs l.l × (total l.l ≡ l.m * 2 ^ l._i)
