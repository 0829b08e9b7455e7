use Rattle.std.proofs.Common.{◌≡◌, get_or}
use Rattle.std.specs.Float.{nan}
use Rattle.std.specs.Float.Ieee.{le}
use Rattle.voice.specs.Lists.{every}
use Rattle.player.proofs.columns.all_up_to.Given as goal

abbrev pub invariant-loop-x : goal.invariant-loop-x
invariant-loop-x l = l.ok ≡ every (λ i. le (get_or l.xs i nan) l.limit) l.x-index
