-- `floor` meets its contract.
use lib.Ieee.{of_bits}
use Rattle.float.proofs.Floor.{floor-less, floor-near}
use Rattle.player.proofs.partials.floor.floor.Goals as goal

pub returns-then-x-n : goal.returns-then-x-n
unfolding of_bits
returns-then-x-n c = floor-less c.args.x c.requires c.if-x-n.true

pub returns-else-x-n : goal.returns-else-x-n
unfolding of_bits
returns-else-x-n c = floor-near c.args.x c.requires c.if-x-n.false
