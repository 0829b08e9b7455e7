-- `all_of` meets its contract.
use Rattle.std.proofs.Common.{refl, arith}
use Rattle.voice.proofs.Loops.{every_first, every-again, every-last, read-any}
use Rattle.voice.proofs.rules.all_of.Goals as goal

pub loop-x-init : goal.loop-x-init
loop-x-init g c = λ p d h. every_first _

pub loop-x-preserved : goal.loop-x-preserved
loop-x-preserved g c = λ p d h.
    let i = c.loop-x.x-index in
    let l = c.loop-x-test.true in
    every-again _ _ _ _ i (c.loop-x.invariant p d h)
    (h i c.test-ok.result l (rw (read-any c.args.xs.now i d c.x-item.result l, ← c.x-item.is) c.test-ok.ensures)) refl

pub returns : goal.returns
returns g c = λ p d h. every-last _ _ _ _ (omega arith) (c.loop-x.invariant p d h)
