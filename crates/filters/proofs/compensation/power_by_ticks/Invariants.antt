use Rattle.std.proofs.Common.{◌≡◌}
use Rattle.filters.specs.Compensation.{impulse, rung_state, rung_power}
use Rattle.filters.proofs.compensation.power_by_ticks.Given as goal

abbrev pub invariant-loop : goal.invariant-loop
invariant-loop l = (l.state ≡ rung_state l.c l.counter) × (l.power ≡ rung_power l.c l.counter) × (l.x ≡ impulse l.counter)
