use Rattle.std.proofs.Common.{sym, refl, arith}
use Rattle.std.proofs.lemmas.Grind.{one_shifted}
use Rattle.console.proofs.FixedLaws.{rounded-far, shift-room}
use Rattle.console.proofs.fixed.millionths.Goals as goal

pub rounded-requires : goal.rounded-requires
rounded-requires c = shift-room _ _ _ (one_shifted c.args.s 18446744073709551615 refl (omega arith)).0 c.requires c.if-s-lt45.true

pub returns : goal.returns
returns c = sym (rounded-far c.args.m c.args.s c.requires c.if-s-lt45.false)
