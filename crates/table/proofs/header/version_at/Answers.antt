use mathlib.Core.Path.{refl, sym, ap, ◌∙◌}
use mathlib.Core.Bool.{not}
use borrow.Author.Tests.{le-leb, lt-leb}
use Rattle.std.proofs.lemmas.Result.{err_from_is_err_and}
use Rattle.table.specs.Image.{magic}
use Rattle.table.specs.inner.Header.{version}
use Rattle.table.proofs.BytesLaws.{part-other}
use Rattle.table.proofs.header.version_at.Goals as goal

pub returns-in_err-mark : goal.returns-in_err-mark
unfolding version
returns-in_err-mark c =
    let p = err_from_is_err_and c.from_residual.result c.from_residual.ensures.1 in
    rw (p.1, p.2, sym c.in_err-mark.ensures) refl

pub returns-then-ne : goal.returns-then-ne
unfolding version
returns-then-ne c =
    let e = part-other c.args.s.now _ _ magic _ 4 _ c.part_of.ensures.bytes c.as_slice.ensures c.ne.ensures ∙ ap not c.if-ne.true in
    rw (sym c.in_ok-mark.ensures, e) refl

pub returns-in_err-version : goal.returns-in_err-version
unfolding version
returns-in_err-version c =
    let p = err_from_is_err_and c.from_residual-in_err-version.result c.from_residual-in_err-version.ensures.1 in
    let e = part-other c.args.s.now _ _ magic _ 4 _ c.part_of.ensures.bytes c.as_slice.ensures c.ne.ensures ∙ ap not c.if-ne.false in
    rw (p.1, p.2, sym c.in_ok-mark.ensures, e, sym c.in_err-version.ensures) refl

pub returns-then-version-gt1 : goal.returns-then-version-gt1
unfolding version
returns-then-version-gt1 c =
    let e = part-other c.args.s.now _ _ magic _ 4 _ c.part_of.ensures.bytes c.as_slice.ensures c.ne.ensures ∙ ap not c.if-ne.false in
    rw (sym c.in_ok-mark.ensures, e, sym c.in_ok-version.ensures, lt-leb _ _ c.if-version-gt1.true) refl

pub returns : goal.returns
unfolding version
returns c =
    let e = part-other c.args.s.now _ _ magic _ 4 _ c.part_of.ensures.bytes c.as_slice.ensures c.ne.ensures ∙ ap not c.if-ne.false in
    rw (sym c.in_ok-mark.ensures, e, sym c.in_ok-version.ensures, le-leb _ _ c.if-version-gt1.false) refl
