-- `all_up_to` meets its contract.
use Rattle.std.proofs.Common.{refl}
use Rattle.voice.proofs.Loops.{every_first, every-again}
use Rattle.player.proofs.columns.all_up_to.Goals as goal

pub loop-x-init : goal.loop-x-init
loop-x-init c = every_first _

pub loop-x-preserved : goal.loop-x-preserved
loop-x-preserved c = every-again _ _ _ _ c.loop-x.x-index c.loop-x.invariant refl refl
