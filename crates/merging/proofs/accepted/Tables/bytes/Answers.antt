use Prim.Native.Nat.{◌≤◌}
use native.Mathlib.Omega.{arith}
use lib.ListN.{length}
use Rattle.merging.proofs.ImageLaws.{holds-of}
use Rattle.merging.proofs.accepted.Tables.bytes.Goals as goal

pub overflow_sub-result : goal.overflow_sub-result
overflow_sub-result c = (holds-of c.args.self.second).inside

pub overflow_add-result : goal.overflow_add-result
overflow_add-result c =
    let p = holds-of c.args.self.first in
    let q = holds-of c.args.self.second in
    let a : c.args.self.first.extent.end ≤ length c.args.self.first.image.now = p.end in
    let b : length c.args.self.first.image.now ≤ 65536 = p.short in
    let d : c.args.self.second.extent.end ≤ length c.args.self.second.image.now = q.end in
    let e : length c.args.self.second.image.now ≤ 65536 = q.short in
    omega arith
