use Rattle.std.proofs.Common.{ℕ, List}
use Rattle.console.proofs.ScanLaws.{Gives, Left}
use Rattle.console.proofs.decimal.spelled.Given as goal

abbrev pub invariant-loop-b : goal.invariant-loop-b
invariant-loop-b g l =
    (text : List ℕ) → Gives g.I.Iterator.next_gives l.fn.bytes text → Left g.I.Iterator.next_gives l.b-iterator text l.negative l.scan
