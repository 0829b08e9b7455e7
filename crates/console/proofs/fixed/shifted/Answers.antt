use Rattle.std.proofs.Common.{◌∙◌, arith}
use Rattle.console.proofs.FixedLaws.{high_small, twice-shift}
use Rattle.console.proofs.fixed.shifted.Goals as goal

pub doubled-l-requires : goal.doubled-l-requires
doubled-l-requires c =
    (c.loop-i.invariant.0, high_small _ c.args.m c.loop-i._i (omega (arith, c.requires)) (omega (arith, c.requires)) c.loop-i.invariant.1)

pub loop-i-preserved : goal.loop-i-preserved
loop-i-preserved c = (c.doubled-l.ensures.0, c.doubled-l.ensures.1 ∙ twice-shift _ c.args.m c.loop-i._i c.loop-i.invariant.1)
