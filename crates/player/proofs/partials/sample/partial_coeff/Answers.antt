-- `partial_coeff` meets its contract.
use Rattle.std.proofs.Common.{◌∙◌, arith}
use borrow.Author.Tests.{ne_eqb}
use Rattle.player.proofs.TermLaws.{blend-of-first}
use Rattle.player.proofs.partials.sample.partial_coeff.Goals as goal

pub returns : goal.returns
returns c = rw (ne_eqb _ _ c.if-x-eq0.false) (c.blend_coeff.ensures ∙ blend-of-first _ _ c.args.x.k (omega arith))
