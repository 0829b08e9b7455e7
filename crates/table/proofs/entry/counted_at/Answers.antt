use mathlib.Core.Path.{sym}
use native.Mathlib.Omega.{arith}
use Rattle.std.proofs.lemmas.Result.{err_from_is_err_and}
use Rattle.wire.proofs.Found.{u32-is, take-is}
use Rattle.table.proofs.WordLaws.{counted_none, counted-ok, counted-short}
use Rattle.table.proofs.entry.counted_at.Goals as goal

pub returns-in_err-count : goal.returns-in_err-count
returns-in_err-count c =
    let p = err_from_is_err_and c.from_residual.result c.from_residual.ensures.1 in
    rw (p.1, p.2) (record { means = sym (counted_none _ _ _ (sym c.in_err-count.ensures)); placed = tt })

pub returns-in_err-words : goal.returns-in_err-words
returns-in_err-words c =
    let p = err_from_is_err_and c.from_residual-in_err-words.result c.from_residual-in_err-words.ensures.1 in
    rw (p.1, p.2) (record { means = sym (counted-short _ _ _ _ _ (sym c.in_ok-count.ensures) (sym c.in_err-words.ensures)); placed = tt })

pub returns : goal.returns
returns c =
    let e = sym c.in_ok-count.ensures in
    let f = sym c.in_ok-words.ensures in
    let w = u32-is _ _ _ _ e in
    let v = take-is _ _ _ _ _ f in
    record { means = rw v.start (sym (counted-ok _ _ _ _ _ _ e f)); placed = (omega arith, omega arith) }
