-- `move_each` meets its contract.
use Rattle.std.proofs.Common.{rules, refl, ap, ◌≡◌, ◌∙◌, get_or, set}
use Rattle.std.specs.Float.{nan}
use Rattle.std.specs.Prelude.{Float}
use lib.Ieee.{le}
use Rattle.float.specs.F32.{quotient}
use Rattle.voice.specs.Lists.{map_to}
use Rattle.voice.proofs.Loops.{every-at, map_to-again}
use Rattle.player.specs.Phase.{advance_of}
use Rattle.player.proofs.RangeLaws.{turn-phase}
use Rattle.player.proofs.partials.phases.move_each.Goals.{then-this-ne0, else-this-ne0}
use Rattle.player.proofs.partials.phases.move_each.Goals as goal

pub loop-i-init : goal.loop-i-init
unfolding map_to
loop-i-init g c = refl

pub advance_small-requires : goal.advance_small-requires
advance_small-requires g c = record {
  phase_in = turn-phase _ c.args.phases.now c.loop-i.phases c.args.m c.loop-i.i c.requires.1 c.loop-i-test.true c.loop-i.invariant;
  step_in = (c.requires.2.at c.loop-i.i c.loop-i-test.true, every-at (λ i. le (get_or c.args.incs.now i nan) (quotient 31 32)) c.args.m c.loop-i.i (c.requires.3 (search rules)) c.loop-i-test.true);
}

pub advance-requires : goal.advance-requires
advance-requires g c = record {
  phase_in = turn-phase _ c.args.phases.now c.loop-i.phases c.args.m c.loop-i.i c.requires.1 c.loop-i-test.true c.loop-i.invariant;
  step_in = c.requires.2.at c.loop-i.i c.loop-i-test.true;
}

pub loop-i-preserved : goal.loop-i-preserved
loop-i-preserved g c =
    let e : c.if-this-ne0.phases ≡ advance_of (get_or c.loop-i.phases c.loop-i.i nan) (get_or c.args.incs.now c.loop-i.i nan) = elim c.if-this-ne0.branch [
      | then-this-ne0 w ↦ w.phases-is ∙ w.advance_small.ensures
      | else-this-ne0 w ↦ w.phases-is ∙ w.advance.ensures
    ] in
    ap (λ (z : Float). set c.loop-i.phases c.loop-i.i z) e ∙ map_to-again (λ i p. advance_of p (get_or c.args.incs.now i nan)) nan c.loop-i.i c.args.phases.now c.loop-i.phases c.loop-i.invariant
