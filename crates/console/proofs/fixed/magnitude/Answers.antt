use Rattle.console.proofs.FixedLaws.{fixed-whole, fixed-part}
use Rattle.console.proofs.fixed.magnitude.Goals as goal

pub returns-then-e-ge150 : goal.returns-then-e-ge150
returns-then-e-ge150 c =
    fixed-whole c.args.bits _ _ c.significand-m.ensures.0 c.exponent-e.ensures.0 _ c.if-e-ge150.true c.shifted.ensures.0 c.shifted.ensures.1

pub returns : goal.returns
returns c =
    fixed-part c.args.bits _ _ c.significand-m.ensures.0 c.exponent-e.ensures.0 _ c.millionths-n.type_inv c.if-e-ge150.false
    c.millionths-n.ensures
