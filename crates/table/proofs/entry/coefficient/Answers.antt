use mathlib.Core.Path.{sym, ◌∙◌}
use native.Mathlib.Omega.{arith}
use Rattle.table.proofs.EntryLaws.{coefficient-none, coefficient-past, coefficient-at}
use Rattle.table.proofs.entry.coefficient.Goals as goal
use Rattle.table.proofs.entry.coefficient.Goals.{then-not-has_channel-via-then-not-has_channel, then-not-has_channel-via-else-not-has_channel+then-width-column}

pub returns-then-not-has_channel : goal.returns-then-not-has_channel
returns-then-not-has_channel c =
    elim c.then-not-has_channel.branch [
      | then-not-has_channel-via-then-not-has_channel w ↦ sym (coefficient-none c.args.s.now c.args.v _ _ (sym (c.has_channel.ensures c.args.s.now) ∙ w.if-not-has_channel.true))
      | then-not-has_channel-via-else-not-has_channel+then-width-column w ↦ sym (coefficient-past c.args.s.now c.args.v _ _ (sym (c.has_channel.ensures c.args.s.now) ∙ w.if-not-has_channel.false) w.if-width-column.true)
    ]

pub returns : goal.returns
returns c =
    c.nth_coefficient.ensures
    ∙ coefficient-at c.args.s.now c.args.v _ _ _ (omega arith) (omega arith) (sym (c.has_channel.ensures c.args.s.now) ∙ c.if-not-has_channel.false) c.if-width-column.false
