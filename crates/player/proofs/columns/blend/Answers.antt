-- `blend` meets its contract.
use Rattle.std.proofs.Common.{arith, ◌≡◌, ◌∙◌, ◌+◌, ◌*◌, ap, sym, get_or, length, take, add-one}
use lib.Ieee.{of_bits, round}
use lib.Seq.{length-take-le}
use Rattle.std.specs.Float.{nan}
use Rattle.std.specs.Prelude.{Float}
use Rattle.float.specs.F32.{◌⊕◌, ◌⊗◌, quotient}
use Rattle.voice.specs.Lists.{steps}
use Rattle.player.proofs.ColumnLaws.{filled-with, filled-as}
use Rattle.player.proofs.columns.blend.Goals as goal

pub loop-q-init : goal.loop-q-init
unfolding steps of_bits round
loop-q-init g c =
    (c.requires.2, λ f G. filled-with c.fill.new.self _ (quotient 0 1) (length (take c.args.n c.args.xs.now)) c.args.n (sym (length-take-le c.args.n c.args.xs.now (omega arith))) (c.fill.ensures.after (λ y e. e)))

pub loop-q-preserved : goal.loop-q-preserved
unfolding steps
loop-q-preserved g c =
    let q = c.loop-q.q in (
      c.loop-q.invariant.0,
      λ f G. filled-as _ _ _ c.args.n
          (λ i l. ap (λ (y : Float). y ⊕ f (get_or c.args.gains.now q nan ⊗ get_or c.args.rows.now (q * 32 + i) nan)) ((c.loop-q.invariant.1 f G).at i l) ∙ rw (add-one q))
          (c.add_row.ensures f G),
    )

pub returns : goal.returns
returns g c = λ f G. let e : c.loop-q.q ≡ c.args.k = omega arith in rw e at (c.loop-q.invariant.1 f G)
