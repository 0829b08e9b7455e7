use mathlib.Core.Path.{refl, sym}
use Rattle.sounder.proofs.BoundaryLaws.{blend-kind}
use Rattle.sounder.proofs.kind.kind_of.Goals as goal

pub returns-then-kind-eq0 : goal.returns-then-kind-eq0
returns-then-kind-eq0 c =
    rw c.if-kind-eq0.true refl

pub returns-else-kind-eq0 : goal.returns-else-kind-eq0
returns-else-kind-eq0 c =
    sym (blend-kind _ _ c.if-kind-eq0.false)
