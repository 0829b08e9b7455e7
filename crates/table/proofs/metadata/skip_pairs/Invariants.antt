use Prim.Native.Nat.{◌-◌}
use mathlib.Core.Path.{◌≡◌}
use Rattle.wire.specs.Parse.{many}
use Rattle.table.specs.Image.{pair, pairs}
use Rattle.table.specs.inner.Answers.{skips}
use Rattle.table.proofs.metadata.skip_pairs.Given as goal

abbrev pub invariant-loop-i : goal.invariant-loop-i
invariant-loop-i l = skips (many (λ i'. pair) l.i (l.n - l.i) l.s l.d.at) ≡ skips (pairs l.n l.s l.initial.d.at)
