-- The lines in turn, each with its number.
use Rattle.std.proofs.Common.{ℕ, List, Ok, Err, Bor, tests, rules, refl, sym, ap, ◌∙◌}
use Rattle.std.proofs.lemmas.Iterator.Splits.{YieldsList-from_slice_split}
use Rattle.std.proofs.lemmas.Iterator.Consumers.{YieldsList-from_enumerate}
use Rattle.std.proofs.lemmas.List.Sums.{fold_push}
use Rattle.std.proofs.lemmas.Result.{err_from_is_err_and}
use Rattle.console.specs.Pieces.{is_feed, lines_of}
use Rattle.console.specs.Plans.{no_windows, left_by, after_line, plan_of}
use Rattle.console.proofs.PiecesLaws.{all_taken, wrong_taken, lines_folded}
use Rattle.console.proofs.plans.read.Goals as goal

pub loop-above-preserved : goal.loop-above-preserved
loop-above-preserved c =
    fold_push (λ r (p : ℕ × Bor (List ℕ)). after_line r p.0 p.1.now) (Ok no_windows) c.loop-above.yielded (c.in-Some.above, c.in-Some.line)
    ∙ ap (λ r. after_line r c.in-Some.above c.in-Some.line.now) c.loop-above.invariant
    ∙ sym c.with_line.ensures
    ∙ ap (λ r. left_by r c.with_line.new.self) c.in_ok-with_line.was

pub returns : goal.returns
unfolding plan_of
returns c =
    sym c.loop-above.invariant
    ∙ all_taken (λ r (p : ℕ × List ℕ). after_line r p.0 p.1) (Ok no_windows) c.loop-above.yielded _ _ _
    (YieldsList-from_enumerate
    (YieldsList-from_slice_split _ is_feed c.args.text.now (search rules) (search rules) (search rules) (λ x b q k. search (rules, tests)))
    (search rules))
    c.loop-above.yielded_by c.in-None.is c.next.ensures.steps
    ∙ lines_folded after_line (Ok no_windows) 0 (lines_of c.args.text.now)

pub returns-in_err-with_line : goal.returns-in_err-with_line
unfolding plan_of
returns-in_err-with_line c =
    let p = err_from_is_err_and c.from_residual.result c.from_residual.ensures.1 in
    p.1
    ∙ ap Err p.2
    ∙ sym (wrong_taken (λ r (p : ℕ × List ℕ). after_line r p.0 p.1) (λ e y. refl) (Ok no_windows) c.loop-above.yielded _ _ _
    (c.in-Some.above, c.in-Some.line) _
    (YieldsList-from_enumerate
    (YieldsList-from_slice_split _ is_feed c.args.text.now (search rules) (search rules) (search rules) (λ x b q k. search (rules, tests)))
    (search rules))
    c.loop-above.yielded_by c.in-Some.is c.next.ensures.steps
    (ap (λ r. after_line r c.in-Some.above c.in-Some.line.now) c.loop-above.invariant
    ∙ sym c.with_line.ensures
    ∙ ap (λ r. left_by r c.with_line.new.self) c.in_err-with_line.was))
    ∙ lines_folded after_line (Ok no_windows) 0 (lines_of c.args.text.now)
