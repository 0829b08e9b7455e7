-- `row_of` meets its contract.
use mathlib.Core.Path.{sym}
use native.Mathlib.Nat.{mod-eq_of_lt}
use Rattle.player.proofs.input.row_of.Goals as goal

pub returns-then-ch-k : goal.returns-then-ch-k
returns-then-ch-k c =
    sym (mod-eq_of_lt c.if-ch-k.true)
