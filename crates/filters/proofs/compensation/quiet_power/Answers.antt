-- `quiet_power` meets its contract.
use Rattle.std.proofs.Common.{◌≡◌, ◌<◌, refl, ap, ◌∙◌, arith}
use lib.Ieee.{of_bits, round}
use Rattle.float.specs.F32.{quotient}
use Rattle.filters.proofs.RingLaws.{quiet-output, quiet-memory, quiet-power}
use Rattle.filters.specs.Biquad.{cleared, tick_of}
use Rattle.filters.specs.Compensation.{rung_state, rung_power}
use Rattle.filters.specs.declared.biquad.BiquadState.{BiquadState}
use Rattle.filters.proofs.compensation.quiet_power.Goals as goal

pub loop-init : goal.loop-init
unfolding of_bits round rung_state rung_power tick_of
loop-init c =
    let k = c.args.c in
    let t : c.tick-t.result ≡ tick_of cleared (quotient 1 1) k = c.tick-t.ensures ∙ ap (λ (s : BiquadState). tick_of s (quotient 1 1) k) c.new-silent.ensures in
    (rw t refl, rw t refl, rw t refl)

pub loop-preserved : goal.loop-preserved
unfolding of_bits round
loop-preserved c =
    let l = c.loop in
    let k = c.args.c in
    let some : 0 < l.counter = omega arith in (
      quiet-power k l.counter l.power l.y l.invariant.0 l.invariant.1,
      quiet-output k l.counter l.y l.z2 c.requires.is_quiet some l.invariant.1 l.invariant.2,
      quiet-memory k l.counter l.y some l.invariant.1,
    )

pub returns : goal.returns
returns c =
    let e : c.loop.counter ≡ c.args.n = omega arith in
    rw (c.loop.invariant.0, e)
