-- `add_row` meets its contract.
use Rattle.std.proofs.Common.{arith}
use lib.ListN.{length-set}
use Rattle.player.proofs.ColumnLaws.{kept_again, filled-again, filled-full}
use Rattle.player.proofs.columns.add_row.Goals as goal

pub loop-i-preserved : goal.loop-i-preserved
loop-i-preserved g c =
    let i = c.loop-i.i in
    let I = c.loop-i.invariant in (
      simp length-set I.0,
      kept_again _ _ i _ I.1,
      λ f G. filled-again _ c.loop-i.xs i _ (omega arith) (rw (I.1.at i (omega arith), G _ _ c.share.ensures)) (I.2 f G),
    )

pub returns : goal.returns
returns g c = λ f G. filled-full _ c.loop-i.xs c.loop-i.i _ (omega arith) (c.loop-i.invariant.2 f G)
