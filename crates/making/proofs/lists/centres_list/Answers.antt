use mathlib.Core.Path.{ap}
use mathlib.Core.List.{List, ◌++◌}
use lib.ListN.{length}
use lib.Ieee.{Float, of_bits, round}
use Rattle.float.specs.F32.{quotient}
use Rattle.voice.proofs.Loops.{drop-replicate}
use Rattle.making.proofs.lists.centres_list.Goals as goal

pub returns : goal.returns
unfolding of_bits round
returns c = rw c.copy_from_slice.ensures.after (ap (λ (l : List Float). c.args.centres.now ++ l) (drop-replicate (quotient 0 1) (length c.args.centres.now) 16))
