-- `sample_of` meets its contract.
use Rattle.std.proofs.Common.{refl, arith, ◌+◌}
use lib.Ieee.{nan, of_bits, round}
use Rattle.voice.specs.Lists.{steps, map_to}
use Rattle.voice.proofs.Loops.{map_to-again, map_to-read, steps-again}
use Rattle.player.proofs.RangeLaws.{turn-phase, step_small, advance-ok}
use Rattle.player.proofs.partials.sample.sample_of.Goals as goal

pub loop-i-init : goal.loop-i-init
unfolding map_to steps of_bits round
loop-i-init c = (refl, refl)

pub advance-phase-requires : goal.advance-phase-requires
advance-phase-requires c =
    let W = c.requires.within in
    record {
      phase_in = turn-phase _ c.args.phases.now c.loop-i.phases c.args.x.m c.loop-i.i c.requires.table.4 c.loop-i-test.true c.loop-i.invariant.0;
      step_in = rw c.partial_freq-freq.ensures (step_small (c.loop-i.i + 1) c.args.p.f0 c.args.p.stretch c.args.x.inv (omega arith) W.0 W.1 W.2);
    }

pub add_partial-y-requires : goal.add_partial-y-requires
add_partial-y-requires c =
    let W = c.requires.within in
    record {
      table_is = c.requires.table.0;
      phase_in =
          rw (c.advance-phase.ensures, c.partial_freq-freq.ensures)
          (advance-ok _ _ (turn-phase _ c.args.phases.now c.loop-i.phases c.args.x.m c.loop-i.i c.requires.table.4 c.loop-i-test.true c.loop-i.invariant.0)
          (step_small (c.loop-i.i + 1) c.args.p.f0 c.args.p.stretch c.args.x.inv (omega arith) W.0 W.1 W.2));
    }

pub loop-i-preserved : goal.loop-i-preserved
loop-i-preserved c =
    let a = c.args in
    let I = c.loop-i.invariant in (
      rw (c.advance-phase.ensures, c.partial_freq-freq.ensures) (map_to-again _ nan c.loop-i.i a.phases.now c.loop-i.phases I.0),
      rw (c.add_partial-y.ensures, c.partial_coeff-coeff.ensures, c.term_gain-gain.ensures, c.advance-phase.ensures, c.partial_freq-freq.ensures, map_to-read _ nan c.loop-i.i a.phases.now c.loop-i.phases I.0) (steps-again _ _ _ c.loop-i.i I.1),
    )
