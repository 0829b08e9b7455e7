use native.Mathlib.Omega.{arith}
use Rattle.merging.proofs.ImageLaws.{holds-of}
use Rattle.merging.proofs.AnswerLaws.{result_fits, out-22, out-23, out_written}
use Rattle.merging.proofs.tables.merge_accepted.Goals as goal

pub returns-then-bytes-gt65536 : goal.returns-then-bytes-gt65536
returns-then-bytes-gt65536 c =
    let w = out-22 _ _ c.args.tables.first.bytes c.args.tables.second.bytes _ _ (holds-of c.args.tables.first) (holds-of c.args.tables.second) c.args.target.now (cc) (omega arith) in
    record { answered = w.0; left = w.1 }

pub returns-then-target-bytes : goal.returns-then-target-bytes
returns-then-target-bytes c =
    let w = out-23 _ _ c.args.tables.first.bytes c.args.tables.second.bytes _ _ (holds-of c.args.tables.first) (holds-of c.args.tables.second) c.args.target.now (cc) (omega arith) (omega arith) in
    record { answered = w.0; left = w.1 }

pub put_merged-requires : goal.put_merged-requires
put_merged-requires c =
    result_fits _ _ c.args.tables.first.bytes c.args.tables.second.bytes _ _ (holds-of c.args.tables.first) (holds-of c.args.tables.second) _ (omega arith) (omega arith)

pub returns : goal.returns
returns c =
    let w = out_written _ _ c.args.tables.first.bytes c.args.tables.second.bytes _ _ (holds-of c.args.tables.first) (holds-of c.args.tables.second) c.args.target.now (cc) (omega arith) (omega arith) _ c.put_merged.ensures in
    record { answered = rw (c.entries.ensures, c.bytes-bytes.ensures) w.0; left = w.1 }
