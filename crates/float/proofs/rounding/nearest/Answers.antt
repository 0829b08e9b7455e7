-- `rounding::nearest` meets its contract, whatever `near` is. Assumes nothing.
use Rattle.float.proofs.RootLaws.{nearest-is}
use Rattle.float.proofs.rounding.nearest.Goals as goal

pub returns-then-n-s : goal.returns-then-n-s
returns-then-n-s c =
    nearest-is c.args.n c.args.near c.requires.0 c.if-s-n.true c.if-n-s.true
