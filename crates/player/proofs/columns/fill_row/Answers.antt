-- `fill_row` meets its contract.
use Rattle.std.proofs.Common.{arith}
use Rattle.player.proofs.ColumnLaws.{row-none, rows-keep, row-again, rows-again}
use Rattle.player.proofs.columns.fill_row.Goals as goal

pub loop-i-init : goal.loop-i-init
loop-i-init g c = λ f G F. (F, row-none f _ _)

pub loop-i-preserved : goal.loop-i-preserved
loop-i-preserved g c = λ f G F.
    let R = c.loop-i.invariant f G F in (
      rows-keep f c.loop-i.rows c.args.q c.args.n c.loop-i.i _ (omega arith) R.0,
      row-again f c.loop-i.rows c.args.q c.loop-i.i _ (omega arith) (G c.args.q c.loop-i.i c.value.result (omega arith) (omega arith) c.value.ensures) R.1,
    )

pub returns : goal.returns
returns g c = λ f G F. let R = c.loop-i.invariant f G F in rows-again f c.loop-i.rows c.args.q c.args.n c.loop-i.i (omega arith) R.0 R.1
