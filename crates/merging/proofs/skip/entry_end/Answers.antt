use mathlib.Core.Path.{◌∙◌}
use native.Mathlib.Omega.{arith}
use Rattle.merging.proofs.SkipLaws.{entry-ends}
use Rattle.merging.proofs.skip.entry_end.Goals as goal

pub numbers_end-rows_at-requires : goal.numbers_end-rows_at-requires
numbers_end-rows_at-requires c =
    (entry-ends c.args.s.now c.args.at c.requires).first

pub numbers_end-count_at-requires : goal.numbers_end-count_at-requires
numbers_end-count_at-requires c =
    rw c.numbers_end-rows_at.ensures (entry-ends c.args.s.now c.args.at c.requires).second

pub number_at-n-requires : goal.number_at-n-requires
number_at-n-requires c =
    rw (c.numbers_end-count_at.ensures, c.numbers_end-rows_at.ensures) (entry-ends c.args.s.now c.args.at c.requires).there

pub overflow_add-count_at : goal.overflow_add-count_at
overflow_add-count_at c =
    let w = rw (← c.numbers_end-rows_at.ensures, ← c.numbers_end-count_at.ensures) at (entry-ends c.args.s.now c.args.at c.requires).there in omega arith

pub pairs_end-requires : goal.pairs_end-requires
pairs_end-requires c =
    let w = entry-ends c.args.s.now c.args.at c.requires in (rw (c.number_at-n.ensures, c.numbers_end-count_at.ensures, c.numbers_end-rows_at.ensures) w.third, rw (c.numbers_end-count_at.ensures, c.numbers_end-rows_at.ensures) w.there)

pub returns : goal.returns
returns c =
    let w = entry-ends c.args.s.now c.args.at c.requires in c.pairs_end.ensures ∙ rw (c.number_at-n.ensures, c.numbers_end-count_at.ensures, c.numbers_end-rows_at.ensures) w.end
