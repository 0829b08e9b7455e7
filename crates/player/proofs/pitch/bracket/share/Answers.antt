-- `share` meets its contract.
use mathlib.Core.Path.{refl, sym, subst}
use lib.Dec.{T}
use Rattle.float.proofs.Finite.{shown}
use Rattle.player.proofs.PhaseLaws.{share-within}
use Rattle.player.proofs.RangeLaws.{not-le}
use Rattle.player.proofs.pitch.bracket.share.Goals as goal

pub returns : goal.returns
returns c =
    (refl, share-within c.args.lo c.args.f0 c.args.hi (subst T (sym c.well_formed.0.1) tt) (subst T (sym c.well_formed.1.0.1) tt) (subst T (sym c.well_formed.1.1.0.1) tt) c.requires.0.plain-is c.requires.1.plain-is c.requires.2.plain-is (shown _ c.requires.3) (not-le c.args.hi c.args.f0 c.requires.2.plain-is c.requires.1.plain-is c.requires.4))
