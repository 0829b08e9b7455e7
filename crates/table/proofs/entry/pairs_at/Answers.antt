use mathlib.Core.Path.{refl, sym}
use Rattle.std.proofs.lemmas.Result.{err_from_is_err_and}
use Rattle.wire.proofs.Found.{u32-is}
use Rattle.wire.proofs.Many.{many-length}
use Rattle.table.specs.Image.{pair}
use Rattle.table.specs.inner.Entry.{metadata}
use Rattle.table.proofs.MetadataLaws.{pairs-are, pairs-arent}
use Rattle.table.proofs.entry.pairs_at.Goals as goal

pub returns-in_err-count : goal.returns-in_err-count
unfolding metadata
returns-in_err-count c =
    let p = err_from_is_err_and c.from_residual.result c.from_residual.ensures.1 in
    rw (p.1, p.2) (record { means = rw (sym c.in_err-count.ensures) refl; placed = tt })

pub returns-in_err-next : goal.returns-in_err-next
unfolding metadata
returns-in_err-next c =
    let p = err_from_is_err_and c.from_residual-in_err-next.result c.from_residual-in_err-next.ensures.1 in
    rw (p.1, p.2) (record { means = rw (sym c.in_ok-count.ensures, pairs-arent _ _ _ _ (sym c.in_err-next.ensures)) refl; placed = tt })

pub returns : goal.returns
unfolding metadata
returns c =
    let e = sym c.in_ok-count.ensures in
    let p = pairs-are _ _ _ _ (sym c.in_ok-next.ensures) in
    record { means = rw (e, p) refl; placed = ((u32-is _ _ _ _ e).end, many-length (λ i. pair) _ _ 0 _ _ _ p) }
