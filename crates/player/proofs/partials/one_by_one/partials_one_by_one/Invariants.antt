use Rattle.std.proofs.Common.{◌≡◌, ◌++◌, drop}
use Rattle.player.specs.inner.Passes.{frequency_in, gains_in, partials_of, partials_out}
use Rattle.player.proofs.PartialsPass.{FewAt}
use Rattle.player.proofs.partials.one_by_one.partials_one_by_one.Given as goal

abbrev pub invariant-loop-i : goal.invariant-loop-i
invariant-loop-i l =
    (l.out ≡ partials_out (partials_of l.timbre l.initial.phases) (frequency_in l.inputs) (gains_in l.inputs) l.i ++ drop l.i l.initial.out)
    × FewAt (partials_of l.timbre l.initial.phases) (frequency_in l.inputs) l.i l.phases l.kept
