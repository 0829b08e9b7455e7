use Prim.Native.Nat.{◌+◌, ◌-◌, ◌≤◌}
use mathlib.Core.Path.{◌≡◌, sym, ◌∙◌}
use native.Mathlib.Omega.{arith}
use lib.ListN.{length}
use lib.Seq.{length-take-le}
use Rattle.table.specs.Decode.{decode, name_of}
use Rattle.wire.proofs.CopyLaws.{copied-whole}
use Rattle.merging.proofs.HeadLaws.{Begins, begins-at, head-written}
use Rattle.merging.proofs.head.put_head.Goals as goal

pub slice_bounds-copy-end : goal.slice_bounds-copy-end
slice_bounds-copy-end c =
    let w : Begins c.args.first.image.now (name_of (decode c.args.first.image.now)) = begins-at _ c.args.first.bytes _ c.args.first.placed in
    let room : 14 + length (name_of (decode c.args.first.image.now)) ≤ length c.args.first.image.now = w.room in
    let start : c.args.first.extent.at ≡ 14 + length (name_of (decode c.args.first.image.now)) = c.args.first.placed.start in
    sym (length-take-le (c.args.first.extent.at - 4) c.args.first.image.now (omega arith))

pub returns : goal.returns
returns c =
    let w : Begins c.args.first.image.now (name_of (decode c.args.first.image.now)) = begins-at _ c.args.first.bytes _ c.args.first.placed in
    let room : 14 + length (name_of (decode c.args.first.image.now)) ≤ length c.args.first.image.now = w.room in
    let start : c.args.first.extent.at ≡ 14 + length (name_of (decode c.args.first.image.now)) = c.args.first.placed.start in
    let even = length-take-le (c.args.first.extent.at - 4) c.args.target.now (omega arith)
    ∙ sym (length-take-le (c.args.first.extent.at - 4) c.args.first.image.now (omega arith)) in
    head-written _ _ _ _ _ (begins-at _ c.args.first.bytes _ c.args.first.placed) c.args.first.placed.start c.requires _ _
    (c.copy.ensures ∙ copied-whole _ _ even) (c.copy_from_slice.ensures.after ∙ c.to_le_bytes.ensures)
