-- `on_line` meets its contract.
use Rattle.std.proofs.Common.{◌≡◌, ℕ, ◌<◌, T, sym, subst, le_of_eq, lt_of_le_of_lt, arith}
use lib.Ieee.{Float, binary32, fits, of_bits}
use Rattle.filters.specs.inner.Ranges.{Phase}
use Rattle.filters.specs.Wave.{cell_of}
use Rattle.filters.proofs.SineLaws.{place-within, cell-lt}
use Rattle.filters.proofs.Line.{diff-fits, a-in-float, d-in-float, line}
use Rattle.filters.proofs.wave.on_line.Goals as goal

pub whole_part-k-requires : goal.whole_part-k-requires
unfolding of_bits
whole_part-k-requires c = (place-within c.args.p (subst T (sym c.well_formed.1.0.1) tt) c.requires)

-- k is below 1024
cell : (k : ℕ) (p : Float) → T (fits binary32 p) → Phase p → k ≡ cell_of p → k < 1024
cell k p f h e = lt_of_le_of_lt (le_of_eq e) (cell-lt p f h)

pub wave-a-requires : goal.wave-a-requires
unfolding of_bits
wave-a-requires c = omega (arith, cell c.whole_part-k.result c.args.p (subst T (sym c.well_formed.1.0.1) tt) c.requires c.whole_part-k.ensures.0)

pub wave-requires : goal.wave-requires
unfolding of_bits
wave-requires c = omega (arith, cell c.whole_part-k.result c.args.p (subst T (sym c.well_formed.1.0.1) tt) c.requires c.whole_part-k.ensures.0)

pub overflow_sub-d : goal.overflow_sub-d
overflow_sub-d c =
    diff-fits c.args.t.now c.whole_part-k.result c.wave-a.result c.wave.result c.wave-a.ensures c.wave.ensures

pub int_to_float-result : goal.int_to_float-result
int_to_float-result c =
    a-in-float c.args.t.now c.whole_part-k.result c.wave-a.result c.wave.result c.wave-a.ensures c.wave.ensures

pub int_to_float-result-2 : goal.int_to_float-result-2
int_to_float-result-2 c =
    d-in-float c.args.t.now c.whole_part-k.result c.wave-a.result c.wave.result c.wave-a.ensures c.wave.ensures

pub returns : goal.returns
unfolding of_bits
returns c =
    line c.args.t.now c.whole_part-k.result c.wave-a.result c.wave.result c.wave-a.ensures c.wave.ensures c.args.p (c.whole_part-k.ensures.0)
