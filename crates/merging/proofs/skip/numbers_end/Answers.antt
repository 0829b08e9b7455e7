use native.Mathlib.Omega.{arith}
use Rattle.merging.proofs.SkipLaws.{numbers-end}
use Rattle.merging.proofs.skip.numbers_end.Goals as goal

pub overflow_add-at : goal.overflow_add-at
overflow_add-at c =
    let w = numbers-end c.args.s.now c.args.at c.requires in omega arith

pub number_at-n-requires : goal.number_at-n-requires
number_at-n-requires c =
    let w = numbers-end c.args.s.now c.args.at c.requires in omega arith

pub overflow_add-result : goal.overflow_add-result
overflow_add-result c =
    let w = numbers-end c.args.s.now c.args.at c.requires in omega arith

pub overflow_add-result-2 : goal.overflow_add-result-2
overflow_add-result-2 c =
    let w = numbers-end c.args.s.now c.args.at c.requires in omega arith

pub returns : goal.returns
returns c =
    let w = numbers-end c.args.s.now c.args.at c.requires in omega arith
