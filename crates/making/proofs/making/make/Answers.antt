use mathlib.Core.Path.{refl, sym, ap}
use native.Mathlib.Omega.{arith}
use Rattle.std.proofs.lemmas.Result.{err_from_is_err_and}
use Rattle.wire.specs.Parse.{Refusal}
use Rattle.making.specs.Making.{making, make_of, make_question}
use Rattle.making.proofs.CoeffLaws.{error-number}
use Rattle.making.proofs.MakingLaws.{table-accepted}
use Rattle.making.proofs.ReadLaws.{table-read, table-refused, too_many, given_back, refused-make}
use Rattle.making.proofs.SortLaws.{bands-few}
use Rattle.making.proofs.making.make.Goals as goal

pub returns-in_err-read : goal.returns-in_err-read
returns-in_err-read c =
    let p = err_from_is_err_and c.from_residual.result c.from_residual.ensures.1 in
    let r = table-refused c.args.image.now _ c.in_err-read.ensures in
    rw (p.1, p.2) (sym (refused-make (making c.args.kind c.args.image.now c.args.sample_rate c.args.centres.now) _ r))

pub returns-then-count-gt-MAX_ENTRIES : goal.returns-then-count-gt-MAX_ENTRIES
unfolding make_of make_question
returns-then-count-gt-MAX_ENTRIES c =
    table-read c.args.image.now c.in_ok-read.read c.in_ok-read.ensures λ t p l w.
    rw (p, too_many c.args.kind t.entries c.args.sample_rate c.args.centres.now (omega arith)) refl

pub returns-in_err-question : goal.returns-in_err-question
unfolding make_of make_question
returns-in_err-question c =
    let e = err_from_is_err_and c.from_residual-in_err-question.result c.from_residual-in_err-question.ensures.1 in
    table-read c.args.image.now c.in_ok-read.read c.in_ok-read.ensures λ t p l w.
    rw (e.1, e.2, p, ← w (omega arith), ← c.in_err-question.ensures, given_back _ _ _ (error-number _)) refl

pub fresh-requires-clause-centres_few : goal.fresh-requires-clause-centres_few
fresh-requires-clause-centres_few c =
    let a = table-accepted _ _ _ _ (ap (λ (q : Refusal). q.number) (sym c.in_ok-question.ensures)) in
    omega (arith, a.as_many, bands-few c.args.kind _ a.sizes)

pub fresh-requires-clause-centres_all : goal.fresh-requires-clause-centres_all
fresh-requires-clause-centres_all c =
    (table-accepted _ _ _ _ (ap (λ (q : Refusal). q.number) (sym c.in_ok-question.ensures))).as_many

pub returns : goal.returns
unfolding make_of make_question
returns c =
    table-read c.args.image.now c.in_ok-read.read c.in_ok-read.ensures λ t p l w.
    rw (p, ← w (omega arith), ← c.in_ok-question.ensures, c.fresh.ensures) refl
