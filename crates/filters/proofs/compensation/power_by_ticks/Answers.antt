-- `power_by_ticks` meets its contract.
use Rattle.std.proofs.Common.{◌≡◌, refl, arith}
use lib.Ieee.{of_bits, round}
use Rattle.filters.proofs.RingLaws.{rung-state, rung-power, impulse-over}
use Rattle.filters.specs.Compensation.{rung_state, rung_power}
use Rattle.filters.proofs.compensation.power_by_ticks.Goals as goal

pub loop-init : goal.loop-init
unfolding of_bits round rung_state rung_power
loop-init c = (c.new-state.ensures, refl, refl)

pub loop-preserved : goal.loop-preserved
unfolding of_bits round
loop-preserved c =
    let l = c.loop in
    let k = c.args.c in
    let t = c.tick-t in (
      rung-state k l.counter l.state l.x t.result l.invariant.0 l.invariant.2 t.ensures,
      rung-power k l.counter l.state l.power l.x t.result l.invariant.0 l.invariant.1 l.invariant.2 t.ensures,
      impulse-over l.counter,
    )

pub returns : goal.returns
returns c =
    let e : c.loop.counter ≡ c.args.n = omega arith in
    rw (c.loop.invariant.1, e)
