use Rattle.std.proofs.lemmas.Iterator.{YieldsList-from_slice}
use Rattle.console.proofs.decimal.read.Goals as goal

pub returns : goal.returns
returns c = c.spelled.ensures c.args.text.now (YieldsList-from_slice c.args.text.now (cc)).runs
