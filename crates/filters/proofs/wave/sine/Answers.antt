-- `sine` meets its contract.
use Rattle.std.proofs.Common.{T, sym, refl, subst}
use lib.Ieee.{of_bits, round}
use Rattle.filters.specs.Wave.{sine_in}
use Rattle.filters.proofs.SineLaws.{phase-is}
use Rattle.filters.proofs.wave.sine.Goals as goal
use Rattle.filters.proofs.wave.sine.Goals.{else-p-via-then-p+else-p-2, else-p-via-else-p}

pub on_line-requires : goal.on_line-requires
unfolding of_bits round
on_line-requires c = phase-is _ (subst T (sym c.if-p.true) tt) (subst T (sym c.if-p-2.true) tt)

pub returns-then-p-2 : goal.returns-then-p-2
unfolding sine_in of_bits round
returns-then-p-2 c = rw (c.if-p.true, c.if-p-2.true) c.on_line.ensures

pub returns : goal.returns
unfolding sine_in of_bits round
returns c =
    elim c.else-p.branch [
      | else-p-via-then-p+else-p-2 w ↦ rw (w.if-p.true, w.if-p-2.false) refl
      | else-p-via-else-p w ↦ rw w.if-p.false refl
    ]
