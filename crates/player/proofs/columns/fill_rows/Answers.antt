-- `fill_rows` meets its contract.
use Rattle.std.proofs.Common.{arith}
use Rattle.player.proofs.ColumnLaws.{rows_none, rows-full}
use Rattle.player.proofs.columns.fill_rows.Goals as goal

pub loop-q-init : goal.loop-q-init
loop-q-init g c = λ f G. rows_none f _ _

pub loop-q-preserved : goal.loop-q-preserved
loop-q-preserved g c = λ f G. c.fill_row.ensures f (λ q i r h l p. G q i r (omega arith) l p) (c.loop-q.invariant f G)

pub returns : goal.returns
returns g c = λ f G. rows-full f c.loop-q.rows c.loop-q.q c.args.k c.args.n (omega arith) (c.loop-q.invariant f G)
