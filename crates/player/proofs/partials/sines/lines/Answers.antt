-- `lines` meets its contract.
use native.Mathlib.Omega.{arith}
use borrow.Author.Rules.{rules}
use mathlib.Core.Path.{◌≡◌}
use lib.ListN.{get_or, length-set}
use lib.Ieee.{nan}
use Rattle.player.specs.inner.Sines.{index_of, cell_start, cell_rise}
use Rattle.player.proofs.Waves.{start_is, rise-is}
use Rattle.player.proofs.ColumnLaws.{filled_none, filled-again, filled-full}
use Rattle.player.proofs.partials.sines.lines.Goals as goal

pub loop-i-init : goal.loop-i-init
loop-i-init c = (search rules, search rules, filled_none _ _, filled_none _ _)

pub float_to_int-k : goal.float_to_int-k
float_to_int-k c = (c.requires.2.at c.loop-i.i c.loop-i-test.true).whole

pub overflow_cast-k : goal.overflow_cast-k
overflow_cast-k c = omega (arith, (c.requires.2.at c.loop-i.i c.loop-i-test.true).below)

pub offset_bounds-wave-k : goal.offset_bounds-wave-k
offset_bounds-wave-k c = omega (arith, (c.requires.2.at c.loop-i.i c.loop-i-test.true).below)

pub bounds-wave-k : goal.bounds-wave-k
bounds-wave-k c = omega (arith, (c.requires.2.at c.loop-i.i c.loop-i-test.true).below)

pub overflow_add-rises : goal.overflow_add-rises
overflow_add-rises c = omega (arith, (c.requires.2.at c.loop-i.i c.loop-i-test.true).below)

pub offset_bounds-wave-k-in-loop-i : goal.offset_bounds-wave-k-in-loop-i
offset_bounds-wave-k-in-loop-i c = omega (arith, (c.requires.2.at c.loop-i.i c.loop-i-test.true).below)

pub bounds-wave-k-in-loop-i : goal.bounds-wave-k-in-loop-i
bounds-wave-k-in-loop-i c = omega (arith, (c.requires.2.at c.loop-i.i c.loop-i-test.true).below)

pub loop-i-preserved : goal.loop-i-preserved
loop-i-preserved c =
    let l = c.loop-i in
    let I = l.invariant in
    let h = (c.requires.2.at l.i c.loop-i-test.true).below in (
      simp length-set I.0,
      simp length-set I.1,
      filled-again (λ j. cell_start (index_of (get_or c.args.cells.now j nan))) l.starts l.i _ (omega arith) (start_is c.args.wave.now c.requires.0 _ h) I.2,
      filled-again (λ j. cell_rise (index_of (get_or c.args.cells.now j nan))) l.rises l.i _ (omega arith) (rise-is c.args.wave.now c.requires.0 _ h) I.3,
    )

pub returns : goal.returns
returns c =
    let l = c.loop-i in
    let e : l.i ≡ c.args.m = omega arith in
    (filled-full _ _ _ _ e l.invariant.2, filled-full _ _ _ _ e l.invariant.3)
