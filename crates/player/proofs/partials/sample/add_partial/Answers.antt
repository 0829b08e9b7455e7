-- `add_partial` meets its contract.
use mathlib.Core.Path.{sym, subst, ◌∙◌}
use lib.Dec.{T}
use lib.Ieee.{of_bits, round}
use Rattle.filters.proofs.SineLaws.{sine-in}
use Rattle.player.specs.Sound.{add_single}
use Rattle.player.proofs.partials.sample.add_partial.Goals as goal

pub returns-then-coeff : goal.returns-then-coeff
unfolding add_single of_bits round
returns-then-coeff c =
    rw (c.if-coeff.true, c.nyquist_fade.ensures, (c.sine.ensures ∙ sine-in c.args.wave.now c.requires.table_is c.args.phase (subst T (sym c.well_formed.1.1.1.1.1.1.1.0.1) tt) c.requires.phase_in))

pub returns-else-coeff : goal.returns-else-coeff
unfolding add_single of_bits round
returns-else-coeff c =
    rw c.if-coeff.false
