use Rattle.std.proofs.Common.{◌≡◌, get_or}
use Rattle.std.specs.Float.{nan}
use Rattle.voice.specs.Lists.{map_to}
use Rattle.player.specs.Phase.{advance_of}
use Rattle.player.proofs.partials.phases.move_each.Given as goal

abbrev pub invariant-loop-i : goal.invariant-loop-i
invariant-loop-i g l = l.phases ≡ map_to (λ i p. advance_of p (get_or l.incs i nan)) 0 l.i l.initial.phases
