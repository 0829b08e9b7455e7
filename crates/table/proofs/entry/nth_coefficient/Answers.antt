use mathlib.Core.Path.{sym, ◌∙◌}
use Rattle.table.proofs.WordLaws.{word-past, word-outside, word-at-index}
use Rattle.table.proofs.entry.nth_coefficient.Goals as goal
use Rattle.table.proofs.entry.nth_coefficient.Goals.{then-v-i-via-then-v-i, then-v-i-via-else-v-i+then-s-at}

pub returns-then-v-i : goal.returns-then-v-i
returns-then-v-i c =
    elim c.then-v-i.branch [
      | then-v-i-via-then-v-i w ↦ sym (word-past _ _ _ _ w.if-v-i.true)
      | then-v-i-via-else-v-i+then-s-at w ↦ sym (word-outside _ c.args.s.now _ _ w.if-v-i.false w.if-s-at.true)
    ]

pub returns : goal.returns
returns c =
    c.word_or.ensures ∙ sym (word-at-index _ _ _ _ c.if-v-i.false)
