use mathlib.Core.Path.{ap, ◌∙◌}
use mathlib.Core.List.{List}
use Prim.Native.Nat.{ℕ}
use native.Mathlib.Omega.{arith}
use lib.ListN.{get_or, set}
use Rattle.wire.proofs.CopyLaws.{copied-next, copied-done}
use Rattle.wire.proofs.copy.copy.Goals as goal

pub loop-i-preserved : goal.loop-i-preserved
loop-i-preserved c =
    ap (λ (x : List ℕ). set x c.loop-i.i (get_or c.args.from.now c.loop-i.i 0)) c.loop-i.invariant
    ∙ copied-next c.args.from.now c.args.into.now c.loop-i.i 0 (omega arith) (omega arith)

pub returns : goal.returns
returns c = c.loop-i.invariant ∙ copied-done c.args.from.now c.args.into.now c.loop-i.i (omega arith)
