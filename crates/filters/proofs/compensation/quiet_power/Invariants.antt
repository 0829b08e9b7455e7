use Rattle.std.proofs.Common.{◌≡◌}
use Rattle.float.specs.F32.{◌⊕◌, quotient}
use Rattle.filters.specs.Compensation.{rung_state, rung_output, rung_power}
use Rattle.filters.proofs.compensation.quiet_power.Given as goal

abbrev pub invariant-loop : goal.invariant-loop
invariant-loop l =
    (l.power ≡ rung_power l.c l.counter) × (l.y ≡ rung_output l.c l.counter) × (l.z2 ≡ (rung_state l.c l.counter).z2 ⊕ quotient 0 1)
