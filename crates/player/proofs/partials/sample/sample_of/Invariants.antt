use Rattle.std.proofs.Common.{◌≡◌, ◌+◌}
use Rattle.float.specs.F32.{quotient}
use Rattle.voice.specs.Lists.{steps, map_to}
use Rattle.player.specs.Phase.{advance_of, step_of}
use Rattle.player.specs.inner.Terms.{sample_added}
use Rattle.player.proofs.partials.sample.sample_of.Given as goal

abbrev pub invariant-loop-i : goal.invariant-loop-i
invariant-loop-i l =
    (l.phases ≡ map_to (λ i ph. advance_of ph (step_of (i + 1) l.p.f0 l.p.stretch l.x.inv)) 0 l.i l.initial.phases)
    × (l.y ≡ steps (λ i y. sample_added l.x l.p l.partials l.gains l.initial.phases i y) (quotient 0 1) l.i)
