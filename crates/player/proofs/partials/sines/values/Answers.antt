-- `values` meets its contract.
use native.Mathlib.Omega.{arith}
use borrow.Author.Rules.{rules}
use mathlib.Core.Path.{◌≡◌, ap}
use lib.ListN.{get_or, length-set}
use lib.Ieee.{Float, nan, of_bits}
use Rattle.player.specs.inner.Sines.{line_at}
use Rattle.player.proofs.ColumnLaws.{filled_none, filled-again, filled-full, kept-all, kept_again}
use Rattle.player.proofs.partials.sines.values.Goals as goal

pub loop-i-init : goal.loop-i-init
loop-i-init c = (search rules, filled_none _ _, kept-all _)

pub loop-i-preserved : goal.loop-i-preserved
unfolding of_bits
loop-i-preserved c =
    let l = c.loop-i in
    let i = l.i in
    let I = l.invariant in
    let r = get_or c.args.rests.now i nan in
    let d = get_or c.args.rises.now i nan in (
      simp length-set I.0,
      filled-again (λ j. line_at (get_or c.args.sines.now j nan) (get_or c.args.rests.now j nan) (get_or c.args.rises.now j nan)) l.sines i _ (omega arith)
          (ap (λ (z : Float). line_at z r d) (I.2.at i (omega arith))) I.1,
      kept_again l.sines c.args.sines.now i _ I.2,
    )

pub returns : goal.returns
returns c =
    let l = c.loop-i in
    let e : l.i ≡ c.args.m = omega arith in
    filled-full _ _ _ _ e l.invariant.1
