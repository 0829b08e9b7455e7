use Rattle.std.proofs.Common.{◌≡◌, get_or}
use Rattle.std.specs.Float.{nan}
use Rattle.float.specs.F32.{◌⊕◌}
use Rattle.voice.specs.Lists.{steps}
use Rattle.player.proofs.columns.sum_of.Given as goal

abbrev pub invariant-loop-x : goal.invariant-loop-x
invariant-loop-x l = l.sum ≡ steps (λ i y. y ⊕ get_or l.xs i nan) l.y l.x-index
