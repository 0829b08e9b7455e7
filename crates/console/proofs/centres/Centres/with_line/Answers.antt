-- A line by its first byte, and by the number that it spells.
use Rattle.std.proofs.Common.{rules, tests, ap, ◌∙◌}
use Rattle.std.proofs.lemmas.Iterator.{YieldsList-from_slice}
use Rattle.std.proofs.lemmas.Iterator.Consumers.{YieldsList-from_filter}
use Rattle.std.proofs.lemmas.Iterator.Search.{find_from_yields_List}
use Rattle.std.proofs.lemmas.Result.{err_from_is_err_and}
use Rattle.console.specs.Decimal.{read_of}
use Rattle.console.proofs.CentresLaws.{is_plain, plain-filter, line-none, line-comment, line-no-number, line-number}
use Rattle.console.proofs.centres.Centres.with_line.Goals as goal

pub returns-in-None : goal.returns-in-None
returns-in-None c =
    let line = c.args.line.now in
    line-none _ _ line c.find.result
    (find_from_yields_List is_plain _ _ _ c.find.ensures.ran (YieldsList-from_slice line (cc)) (λ x b q k. search (rules, tests)))
    c.in-None.is

pub returns-in-Some-eq35 : goal.returns-in-Some-eq35
returns-in-Some-eq35 c =
    let line = c.args.line.now in
    line-comment _ _ line c.find.result
    (find_from_yields_List is_plain _ _ _ c.find.ensures.ran (YieldsList-from_slice line (cc)) (λ x b q k. search (rules, tests)))
    _ c.in-Some-eq35.is
    c.in-Some-eq35.field-0-test

pub returns-in_err-ok_or-in-Some : goal.returns-in_err-ok_or-in-Some
returns-in_err-ok_or-in-Some c =
    let line = c.args.line.now in
    let p = err_from_is_err_and c.from_residual.result c.from_residual.ensures.1 in
    rw (p.1, p.2)
    (line-no-number _ _ line c.find.result
    (find_from_yields_List is_plain _ _ _ c.find.ensures.ran (YieldsList-from_slice line (cc)) (λ x b q k. search (rules, tests)))
    _ c.in-Some.is
    c.in-Some.field-0-test.1 c.spelled-number.result
    (c.spelled-number.ensures _
    (YieldsList-from_filter _ is_plain (YieldsList-from_slice line (cc)) c.filter.ensures.closure (λ x b q k. search (rules, tests))).runs
    ∙ ap read_of (plain-filter line))
    _ c.in_err-ok_or-in-Some.ensures.value)

pub returns-in_ok-ok_or-in-Some : goal.returns-in_ok-ok_or-in-Some
returns-in_ok-ok_or-in-Some c =
    let line = c.args.line.now in
    c.with.ensures ∙
    line-number _ _ line c.find.result
    (find_from_yields_List is_plain _ _ _ c.find.ensures.ran (YieldsList-from_slice line (cc)) (λ x b q k. search (rules, tests)))
    _ c.in-Some.is
    c.in-Some.field-0-test.1 c.spelled-number.result
    (c.spelled-number.ensures _
    (YieldsList-from_filter _ is_plain (YieldsList-from_slice line (cc)) c.filter.ensures.closure (λ x b q k. search (rules, tests))).runs
    ∙ ap read_of (plain-filter line))
    _ _ c.in_ok-ok_or-in-Some.ensures.value c.value.ensures
