use mathlib.Core.Path.{sym, ap, ◌∙◌}
use native.Mathlib.Omega.{arith}
use mathlib.Core.Option.{some}
use Rattle.wire.proofs.Many.{stand-no, stand-end}
use Rattle.table.specs.Image.{entry}
use Rattle.table.specs.Answer.{entry_parsed}
use Rattle.table.proofs.LookupLaws.{view-here, view-go, view-none}
use Rattle.table.proofs.lookup.entry_among.Goals as goal

pub returns-in_default : goal.returns-in_default
returns-in_default c =
    sym (view-none _ _ _ (stand-no entry _ _ _ _ _ c.loop-i-test.true (sym c.entry_at.ensures.means ∙ ap (entry_parsed _) c.in_default.is))) ∙ c.loop-i.invariant.1

pub returns-then-i-index : goal.returns-then-i-index
returns-then-i-index c =
    ap some c.in-Ok.ensures.placed ∙ sym (view-here c.args.s.now c.loop-i.i c.args.start.count _ _ _ c.loop-i-test.true (sym c.in-Ok.ensures.means) c.args.index (omega arith)) ∙ c.loop-i.invariant.1

pub loop-i-preserved : goal.loop-i-preserved
loop-i-preserved c =
    (omega arith, sym (view-go c.args.s.now c.loop-i.i c.args.start.count _ _ _ c.loop-i-test.true (sym c.in-Ok.ensures.means) c.args.index (omega arith)) ∙ c.loop-i.invariant.1)

pub returns : goal.returns
returns c =
    sym (view-none _ _ _ (stand-end entry _ _ _ _ c.loop-i-test.false)) ∙ c.loop-i.invariant.1
