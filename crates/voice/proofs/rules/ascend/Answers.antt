-- `ascend` meets its contract.
use Rattle.std.proofs.Common.{◌≡◌, ◌+◌, ◌-◌, ◌<◌, get_or, length, refl, arith}
use Rattle.voice.proofs.Loops.{every_first, every-again, every-last, read-any}
use Rattle.voice.proofs.rules.ascend.Goals as goal

pub loop-i-init : goal.loop-i-init
loop-i-init g c = (omega arith, λ p d h. every_first _)

pub loop-i-preserved : goal.loop-i-preserved
loop-i-preserved g c = (
  omega arith,
  λ p d h.
      let i = c.loop-i.i in
      let xs = c.args.xs.now in
      let turn : i + 1 - 1 ≡ i - 1 + 1 = omega arith in
      let here : i - 1 + 1 ≡ i = omega arith in
      let before : i - 1 < length xs = omega arith in
      let at : i < length xs = omega arith in
      let post : goal.F-post g c.args.in_order (get_or xs (i - 1) d) (get_or xs (i - 1 + 1) d) c.in_order-ok.result =
      rw (here, read-any xs (i - 1) d c.index-xs-i.result before, ← c.index-xs-i.is, read-any xs i d c.index-xs-i-in-loop-i.result at, ← c.index-xs-i-in-loop-i.is) c.in_order-ok.ensures in
      rw turn (every-again _ _ _ _ (i - 1) (c.loop-i.invariant.1 p d h) (h (i - 1) c.in_order-ok.result (omega arith) post) refl),
)

pub returns : goal.returns
returns g c = λ p d h. every-last _ _ _ _ (omega arith) (c.loop-i.invariant.1 p d h)
