-- The first byte, and each one after it.
use Rattle.std.proofs.Common.{◌∙◌}
use Rattle.console.proofs.ScanLaws.{none-spelled, left-minus, left-first, first-wrong, left-next, left-wrong, left-end}
use Rattle.console.proofs.decimal.spelled.Goals as goal
use Rattle.console.proofs.decimal.spelled.Goals.{then-negative, else-negative+in_ok-scan}

pub returns-in_err-first : goal.returns-in_err-first
returns-in_err-first g c =
    λ text gives. rw c.from_residual.ensures
    (none-spelled g.I.Iterator.next_gives c.args.bytes c.next.new.self text gives c.in_err-first.ensures.steps)

pub returns-in_err-scan : goal.returns-in_err-scan
returns-in_err-scan g c =
    λ text gives. rw c.from_residual-in_err-scan.ensures
    (first-wrong g.I.Iterator.next_gives c.args.bytes c.next.new.self text gives c.in_ok-first.field-0
    c.in_ok-first.ensures.steps c.if-negative.false
    (rw c.start.ensures at c.in_err-scan.ensures))

pub loop-b-init : goal.loop-b-init
loop-b-init g c =
    λ text gives. rw c.into_iter-b-iterator.ensures.into_iter_gives
    (elim c.if-negative.branch [
      | then-negative w ↦ rw (w.scan-is, w.start-scan.ensures)
          (left-minus g.I.Iterator.next_gives c.args.bytes c.next.new.self text gives c.in_ok-first.field-0
          c.in_ok-first.ensures.steps w.if-negative.true)
      | else-negative+in_ok-scan w ↦ rw w.scan-is
          (left-first g.I.Iterator.next_gives c.args.bytes c.next.new.self text gives c.in_ok-first.field-0
          c.in_ok-first.ensures.steps _ w.if-negative.false
          (rw w.start.ensures at w.in_ok-scan.ensures))
    ])

pub returns-in_err-scan-2 : goal.returns-in_err-scan-2
returns-in_err-scan-2 g c =
    λ text gives. rw c.from_residual-in_err-scan-2.ensures
    (left-wrong g.I.Iterator.next_gives text _ c.loop-b.scan c.loop-b.b-iterator c.next-in-loop-b.new.self (c.loop-b.invariant text gives)
    c.in-Some.b c.in-Some.ensures.steps
    c.in_err-scan-2.ensures)

pub loop-b-preserved : goal.loop-b-preserved
loop-b-preserved g c =
    λ text gives.
    left-next g.I.Iterator.next_gives text _ c.loop-b.scan c.loop-b.b-iterator c.next-in-loop-b.new.self (c.loop-b.invariant text gives)
    c.in-Some.b _
    c.in-Some.ensures.steps c.in_ok-scan-2.ensures

pub returns : goal.returns
returns g c =
    λ text gives.
    c.conclude.ensures
    ∙ left-end g.I.Iterator.next_gives text _ c.loop-b.scan c.loop-b.b-iterator c.next-in-loop-b.new.self (c.loop-b.invariant text gives)
    c.in-None.ensures.steps
