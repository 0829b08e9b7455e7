use mathlib.Core.Path.{sym}
use native.Mathlib.Omega.{arith}
use Rattle.wire.proofs.Found.{u32-is}
use Rattle.table.proofs.entry.numbers_at.Goals as goal

pub returns-clause-placed : goal.returns-clause-placed
returns-clause-placed c =
    let w₁ = u32-is _ _ _ _ (sym c.in_ok-first.ensures) in
    let w₂ = u32-is _ _ _ _ (sym c.in_ok-second.ensures) in
    let w₃ = c.in_ok-words.ensures.placed in
    (omega arith, omega arith)
