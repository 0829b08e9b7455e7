-- `live_of` meets its contract.
use Rattle.player.proofs.BandLaws.{single-most, lists-all}
use Rattle.player.proofs.bands.live_of.Goals as goal

pub returns-else-set-ne0 : goal.returns-else-set-ne0
returns-else-set-ne0 c = lists-all c.args.set.now c.if-set-ne0.false (single-most c.args.set.now c.if-set-ne0.false c.requires)
