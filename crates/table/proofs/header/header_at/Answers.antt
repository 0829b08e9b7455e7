use mathlib.Core.Path.{refl, sym}
use native.Mathlib.Omega.{arith}
use Rattle.std.proofs.lemmas.Result.{err_from_is_err_and}
use Rattle.wire.proofs.Found.{string-is}
use Rattle.table.specs.inner.Header.{header_by}
use Rattle.table.proofs.HeaderLaws.{header-by, version-end}
use Rattle.table.proofs.header.header_at.Goals as goal

pub returns-in_err-version : goal.returns-in_err-version
unfolding header_by
returns-in_err-version c =
    let p = err_from_is_err_and c.from_residual.result c.from_residual.ensures.1 in
    rw (p.1, p.2) (record { means = rw (header-by, sym c.in_err-version.ensures) refl; placed = tt })

pub returns-in_err-name : goal.returns-in_err-name
unfolding header_by
returns-in_err-name c =
    let p = err_from_is_err_and c.from_residual-in_err-name.result c.from_residual-in_err-name.ensures.1 in
    rw (p.1, p.2) (record { means = rw (header-by, sym c.in_ok-version.ensures, sym c.in_err-name.ensures.0) refl; placed = tt })

pub returns-in_err-count : goal.returns-in_err-count
unfolding header_by
returns-in_err-count c =
    let p = err_from_is_err_and c.from_residual-in_err-count.result c.from_residual-in_err-count.ensures.1 in
    rw (p.1, p.2) (record { means = rw (header-by, sym c.in_ok-version.ensures, sym c.in_ok-name.ensures.0, sym c.in_err-count.ensures) refl; placed = tt })

pub returns : goal.returns
unfolding header_by
returns c =
    let e₁ = sym c.in_ok-version.ensures in
    let e₂ = sym c.in_ok-name.ensures.0 in
    let w₁ = version-end _ _ _ e₁ in
    let w₂ = string-is _ _ _ _ e₂ in
    record { means = rw (header-by, e₁, e₂, sym c.in_ok-count.ensures) refl; placed = omega arith }
