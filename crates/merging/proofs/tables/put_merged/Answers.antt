use native.Mathlib.Omega.{arith}
use Rattle.merging.proofs.ImageLaws.{holds-of, image-few}
use Rattle.merging.proofs.tables.put_merged.Goals as goal

pub put_within-requires-else-entries-le64 : goal.put_within-requires-else-entries-le64
put_within-requires-else-entries-le64 c =
    (c.requires, image-few _ _ c.args.tables.first.bytes c.args.tables.second.bytes _ _ (holds-of c.args.tables.first) (holds-of c.args.tables.second) c.requires.0, omega arith, omega arith, omega arith)
