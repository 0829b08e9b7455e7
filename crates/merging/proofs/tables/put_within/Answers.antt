use Prim.Native.Nat.{◌≤◌}
use mathlib.Core.Path.{◌≡◌}
use native.Mathlib.Omega.{arith}
use lib.ListN.{length, replicate}
use Rattle.table.specs.Decode.{decode}
use Rattle.merging.specs.inner.Keys.{rank}
use Rattle.merging.specs.inner.Image.{stable_image}
use Rattle.merging.proofs.OrderLaws.{ascending-order}
use Rattle.merging.proofs.ImageLaws.{holds-of, image-size, image-written, first-part, second-part}
use Rattle.merging.proofs.tables.put_within.Goals as goal

pub put_head-requires : goal.put_head-requires
put_head-requires g c =
    let z = image-size _ _ c.args.tables.first.bytes c.args.tables.second.bytes _ _ (holds-of c.args.tables.first) (holds-of c.args.tables.second) c.requires.0.0 in
    let o : length (stable_image (decode c.args.tables.first.image.now) (decode c.args.tables.second.image.now)) ≤ length c.args.target.now = c.requires.0.1 in
    omega arith

pub put_all-requires : goal.put_all-requires
put_all-requires g c =
    let x = first-part c.args.tables.first c.args.tables.second (replicate g.row.N c.default-room.result) _ _ c.ordered_keys.ensures c.ordered_keys-2.ensures in
    let y = second-part c.args.tables.first c.args.tables.second (replicate g.row.N c.default-room.result) _ _ c.ordered_keys.ensures c.ordered_keys-2.ensures in
    let z = image-size _ _ c.args.tables.first.bytes c.args.tables.second.bytes _ _ (holds-of c.args.tables.first) (holds-of c.args.tables.second) c.requires.0.0 in
    let o : length (stable_image (decode c.args.tables.first.image.now) (decode c.args.tables.second.image.now)) ≤ length c.args.target.now = c.requires.0.1 in
    let a : length c.put_head.new.target ≡ length c.args.target.now = c.put_head.auto.target in
    rw (c.entries-k.ensures, x, y) (ascending-order rank _, ascending-order rank _, omega arith)

pub returns : goal.returns
returns g c =
    let x = first-part c.args.tables.first c.args.tables.second (replicate g.row.N c.default-room.result) _ _ c.ordered_keys.ensures c.ordered_keys-2.ensures in
    let y = second-part c.args.tables.first c.args.tables.second (replicate g.row.N c.default-room.result) _ _ c.ordered_keys.ensures c.ordered_keys-2.ensures in
    image-written _ _ c.args.tables.first.bytes c.args.tables.second.bytes _ _ (holds-of c.args.tables.first) (holds-of c.args.tables.second) c.requires.0.0 c.args.target.now c.put_head.new.target c.put_all.new.target (rw c.entries-k.ensures at c.put_head.ensures) (rw (c.entries-k.ensures, x, y) at c.put_all.ensures)
