-- `part_of` meets its contract.
use mathlib.Core.Path.{◌≡◌}
use Prim.Native.Nat.{◌+◌, ◌-◌, ◌*◌, ◌%◌}
use native.Mathlib.Omega.{arith}
use lib.ListN.{length}
use borrow.Author.Tests.{eq-eqb, ne_eqb}
use Rattle.voice.specs.Input.{part_of}
use Rattle.voice.proofs.Loops.{input-end}
use Rattle.player.proofs.input.part_of.Goals as goal

pub returns-then-k-eq0 : goal.returns-then-k-eq0
unfolding part_of
returns-then-k-eq0 c =
    rw (eq-eqb _ _ c.if-k-eq0.true)

pub row_of-requires : goal.row_of-requires
row_of-requires c =
    (input-end c.args.k c.args.samples (length c.args.s.now) c.args.ch c.requires (ne_eqb _ _ c.if-k-eq0.false)).0

pub overflow_mul-at : goal.overflow_mul-at
overflow_mul-at c =
    let e = input-end c.args.k c.args.samples (length c.args.s.now) c.args.ch c.requires (ne_eqb _ _ c.if-k-eq0.false) in
    record { fits = rw c.row_of.ensures (omega (arith, c.well_formed.1.0.1, e.1)) }

pub overflow_add-to : goal.overflow_add-to
overflow_add-to c =
    let e = input-end c.args.k c.args.samples (length c.args.s.now) c.args.ch c.requires (ne_eqb _ _ c.if-k-eq0.false) in
    record { fits = rw c.row_of.ensures (omega (arith, c.well_formed.1.0.1, e.1)) }

pub offset_bounds-s-at : goal.offset_bounds-s-at
offset_bounds-s-at c =
    let e = input-end c.args.k c.args.samples (length c.args.s.now) c.args.ch c.requires (ne_eqb _ _ c.if-k-eq0.false) in
    record { fits = rw c.row_of.ensures (omega (arith, c.well_formed.1.0.1, e.1)) }

pub slice_bounds-result-end-2 : goal.slice_bounds-result-end-2
slice_bounds-result-end-2 c =
    let e = input-end c.args.k c.args.samples (length c.args.s.now) c.args.ch c.requires (ne_eqb _ _ c.if-k-eq0.false) in
    rw c.row_of.ensures e.1

pub returns : goal.returns
unfolding part_of
returns c =
    let at = (c.args.ch % c.args.k) * c.args.samples in
    let h : at + c.args.samples - at ≡ c.args.samples = omega arith in
    rw (ne_eqb _ _ c.if-k-eq0.false, c.row_of.ensures, h)
