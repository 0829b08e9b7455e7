-- `advance_small` meets its contract.
use lib.Ieee.{binary32, of_bits}
use lib.Ieee.Fits.{add-fits}
use Rattle.std.proofs.Common.{sym}
use Rattle.float.proofs.Finite.{shown}
use Rattle.float.proofs.Fraction.{fraction-below, fraction-over, not-lt, one}
use Rattle.float.specs.F32.{◌⊕◌}
use Rattle.player.proofs.RangeLaws.{sum-ok, sum-under-two}
use Rattle.player.proofs.partials.phase.advance_small.Goals as goal

pub returns-then-x : goal.returns-then-x
unfolding of_bits
returns-then-x c =
    let p = c.args.ph in
    let d = c.args.inc in
    sym (fraction-below (p ⊕ d) (add-fits binary32 p d) (sum-ok p d c.requires.phase_in c.requires.step_in.0) (shown _ c.if-x.true))

pub returns-else-x : goal.returns-else-x
unfolding of_bits
returns-else-x c =
    let p = c.args.ph in
    let d = c.args.inc in
    let P = c.requires.phase_in in
    let S = c.requires.step_in.0 in
    let W = sum-ok p d P S in
    sym (fraction-over (p ⊕ d) W (not-lt (p ⊕ d) one W.plain-is tt c.if-x.false) (sum-under-two p d P S c.requires.step_in.1))
