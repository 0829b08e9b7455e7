-- `stretch_of` meets its contract.
use mathlib.Core.Path.{sym, subst}
use lib.Dec.{T}
use lib.Ieee.{Float}
use Rattle.float.specs.inner.Range.{Within}
use Rattle.player.proofs.RangeLaws.{stretch-ok-within}
use Rattle.player.proofs.pitch.stretch.stretch_of.Goals as goal

pub returns : goal.returns
returns c =
    (c.lerp.ensures, subst (λ (z : Float). Within 8 1 z) (sym c.lerp.ensures) (stretch-ok-within c.args.lo c.args.hi c.args.t (subst T (sym c.well_formed.0.1) tt) c.requires.0 c.requires.1 c.requires.2))
