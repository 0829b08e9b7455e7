use Rattle.merging.proofs.SkipLaws.{Skipping}
use Rattle.merging.proofs.skip.pairs_end.Given as goal

abbrev pub invariant-loop : goal.invariant-loop
invariant-loop l = Skipping l.s l.n l.at l.end l.counter
