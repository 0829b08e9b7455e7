-- `whole_part` meets its contract.
use Rattle.std.proofs.Common.{le_trans, le_of_eq, arith}
use Rattle.float.proofs.Fraction.{above_minus_one, under_top, whole-small}
use Rattle.filters.proofs.whole.whole_part.Goals as goal

pub truncating_f32_to_u64-requires : goal.truncating_f32_to_u64-requires
truncating_f32_to_u64-requires c = record { lower_bound = above_minus_one c.args.x c.requires.plain-is; upper_bound = under_top c.args.x c.requires }

pub overflow_cast-result : goal.overflow_cast-result
overflow_cast-result c = omega (arith, c.truncating_f32_to_u64.ensures, whole-small c.args.x c.requires)

pub returns : goal.returns
returns c =
    let e = c.truncating_f32_to_u64.ensures in
    (e, le_trans (le_of_eq e) (whole-small c.args.x c.requires))
