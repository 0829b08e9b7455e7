use mathlib.Core.Path.{sym, ap, ◌∙◌}
use Prim.Native.Nat.{ℕ}
use mathlib.Core.Option.{Option}
use Rattle.table.specs.Desk.{value_or}
use Rattle.table.proofs.DeskLaws.{first-empty, first-go, first-no, value-or}
use Rattle.table.proofs.desk.first_value.Goals as goal

pub returns-then-start-eq0 : goal.returns-then-start-eq0
returns-then-start-eq0 c =
    sym (first-empty _ _ _ c.args.s.now _ c.if-start-eq0.true)

pub returns-in-Ok : goal.returns-in-Ok
returns-in-Ok c =
    c.unwrap_or.ensures ∙ value-or c.metadata_value.result c.args.other ∙ ap (λ (o : Option ℕ). value_or o c.args.other) c.metadata_value.ensures ∙ sym (first-go _ _ _ _ _ _ _ c.if-start-eq0.false (sym c.in-Ok.ensures.means))

pub returns-in-Err : goal.returns-in-Err
returns-in-Err c =
    sym (first-no _ _ _ _ _ _ c.if-start-eq0.false (sym c.in-Err.ensures.means))
