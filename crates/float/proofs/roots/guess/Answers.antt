-- `roots::guess` is safe, and leaves what is not normal. Assumes nothing.
use mathlib.Core.Path.{sym, ◌∙◌, subst}
use lib.Dec.{T}
use lib.Ieee.{binary32, fits, of_bits}
use Rattle.float.proofs.Finite.{shown}
use Rattle.float.proofs.Patterns.{normal-range}
use Rattle.float.proofs.Operands.{sqrt-normal}
use Rattle.float.proofs.roots.guess.Goals as goal

pub near_f32-requires : goal.near_f32-requires
unfolding of_bits
near_f32-requires c = (normal-range c.args.x (shown (fits binary32 c.args.x) c.well_formed.0.1) ((sqrt-normal c.args.x c.if-x.true c.if-x-2.true).0)).1

pub returns-then-x-2 : goal.returns-then-x-2
unfolding of_bits
returns-then-x-2 c = λ h. absurd (subst T (sym c.if-x.true ∙ h) tt)
