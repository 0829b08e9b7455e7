use mathlib.Core.Path.{sym}
use native.Mathlib.Omega.{arith}
use Rattle.table.proofs.MetadataLaws.{length-there, key_fits, value_there, pair-again-is}
use Rattle.table.proofs.metadata.pair_again.Goals as goal

pub returns-in_err-length : goal.returns-in_err-length
returns-in_err-length c =
    absurd (length-there c.args.s.now c.args.c.at c.requires _ (sym c.in_err-length.ensures))

pub overflow_add-past : goal.overflow_add-past
overflow_add-past c =
    let w = key_fits c.args.s.now c.args.c.at c.requires _ _ (sym c.in_ok-length.ensures) in
    omega arith

pub returns-in_err-value : goal.returns-in_err-value
returns-in_err-value c =
    absurd (value_there c.args.s.now c.args.c.at c.requires _ _ (sym c.in_ok-length.ensures) _ (sym c.in_err-value.ensures))

pub returns : goal.returns
returns c =
    pair-again-is c.args.s.now c.args.c.at c.requires _ _ (sym c.in_ok-length.ensures) _ _ (sym c.in_ok-value.ensures)
