-- `places` meets its contract.
use native.Mathlib.Omega.{arith}
use borrow.Author.Rules.{rules}
use mathlib.Core.Path.{◌≡◌, sym, ap, subst}
use lib.ListN.{get_or, length-set}
use lib.Ieee.{Float, nan, binary32, of_bits, sub}
use Rattle.filters.specs.Wave.{place_of, rest_of}
use Rattle.player.specs.inner.Sines.{cell_float, Cell}
use Rattle.player.proofs.Waves.{place-small, phase-cell, cells-none, cells-more, cells-full}
use Rattle.player.proofs.ColumnLaws.{filled_none, filled-again, filled-full}
use Rattle.player.proofs.partials.sines.places.Goals as goal

pub loop-i-init : goal.loop-i-init
loop-i-init c = (search rules, search rules, filled_none _ _, cells-none _, filled_none _ _)

pub floor-f-requires : goal.floor-f-requires
unfolding of_bits
floor-f-requires c = place-small (get_or c.args.phases.now c.loop-i.i nan) (c.requires.2.at c.loop-i.i c.loop-i-test.true)

pub loop-i-preserved : goal.loop-i-preserved
unfolding of_bits
loop-i-preserved c =
    let l = c.loop-i in
    let e = c.floor-f.ensures in
    let I = l.invariant in
    let p = get_or c.args.phases.now l.i nan in (
      simp length-set I.0,
      simp length-set I.1,
      filled-again (λ j. cell_float (get_or c.args.phases.now j nan)) l.cells l.i _ (omega arith) e I.2,
      cells-more l.cells l.i _ (omega arith) I.3 (subst Cell (sym e) (phase-cell p (c.type_inv.phases c.loop-i.i) (c.requires.2.at l.i c.loop-i-test.true))),
      filled-again (λ j. rest_of (get_or c.args.phases.now j nan)) l.rests l.i _ (omega arith) (ap (λ (z : Float). sub binary32 (place_of p) z) e) I.4,
    )

pub returns : goal.returns
returns c =
    let l = c.loop-i in
    let e : l.i ≡ c.args.m = omega arith in
    (filled-full _ _ _ _ e l.invariant.2, cells-full _ _ _ e l.invariant.3, filled-full _ _ _ _ e l.invariant.4)
