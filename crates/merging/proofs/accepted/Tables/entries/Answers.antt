use Prim.Native.Nat.{◌≤◌}
use native.Mathlib.Omega.{arith}
use Rattle.merging.proofs.ImageLaws.{few-entries}
use Rattle.merging.proofs.accepted.Tables.entries.Goals as goal

pub overflow_add-result : goal.overflow_add-result
overflow_add-result c =
    let x : c.args.self.first.extent.count ≤ 65536 = few-entries c.args.self.first in
    let y : c.args.self.second.extent.count ≤ 65536 = few-entries c.args.self.second in
    omega arith
