-- `advance` meets its contract. A test gives an order of floats with the literal by its bit pattern, which `unfolding of_bits` computes.
use mathlib.Core.Path.{sym, ap}
use lib.Ieee.{Float, binary32, add, sub, of_bits}
use lib.Ieee.Fits.{add-fits}
use Rattle.float.proofs.Finite.{shown}
use Rattle.float.proofs.Fraction.{fraction-below, fraction-over, not-lt, one}
use Rattle.player.proofs.RangeLaws.{sum-up-to, sum-ok}
use Rattle.player.proofs.partials.phase.advance.Goals as goal

pub returns-then-x : goal.returns-then-x
unfolding of_bits
returns-then-x c =
    sym (fraction-below (add binary32 c.args.ph c.args.inc) (add-fits binary32 c.args.ph c.args.inc) (sum-ok c.args.ph c.args.inc c.requires.phase_in c.requires.step_in) (shown _ c.if-x.true))

pub returns-then-x-2 : goal.returns-then-x-2
unfolding of_bits
returns-then-x-2 c =
    sym (fraction-over (add binary32 c.args.ph c.args.inc) (sum-ok c.args.ph c.args.inc c.requires.phase_in c.requires.step_in) (not-lt (add binary32 c.args.ph c.args.inc) one (sum-ok c.args.ph c.args.inc c.requires.phase_in c.requires.step_in).plain-is tt c.if-x.false) (shown _ c.if-x-2.true))

pub floor-requires : goal.floor-requires
floor-requires c = sum-up-to c.args.ph c.args.inc c.requires.phase_in c.requires.step_in

pub returns : goal.returns
returns c = ap (λ (y : Float). sub binary32 (add binary32 c.args.ph c.args.inc) y) c.floor.ensures
