-- What each search of the windows finds, and what is answered then. (That a wrong edge is said first is left to the search, by `edge_first`.)
use Rattle.std.proofs.Common.{None}
use lib.Ieee.{of_bits, round}
use Rattle.quiet.proofs.AnswerLaws.{step-wrong, minute-wrong, window-holds, none-holds}
use Rattle.quiet.proofs.gain.windows_gain.Goals as goal

pub returns-in-Some-first_bad_step : goal.returns-in-Some-first_bad_step
returns-in-Some-first_bad_step c =
    step-wrong c.args.windows.now _ _ _ None c.first_bad_edge.ensures c.in_default.is c.first_bad_step.ensures _ c.in-Some-first_bad_step.is

pub returns-then-minute-ge-WEEK_MINUTES : goal.returns-then-minute-ge-WEEK_MINUTES
returns-then-minute-ge-WEEK_MINUTES c =
    minute-wrong c.args.windows.now _ _ _ None c.first_bad_edge.ensures c.in_default.is c.first_bad_step.ensures c.in_default-first_bad_step.is
    c.if-minute-ge-WEEK_MINUTES.true

pub returns-in-Some-first_holding : goal.returns-in-Some-first_holding
returns-in-Some-first_holding c =
    rw c.step_gain.ensures
    (window-holds c.args.windows.now c.args.minute _ _ _ c.first_bad_edge.ensures c.in_default.is c.first_bad_step.ensures
    c.in_default-first_bad_step.is c.if-minute-ge-WEEK_MINUTES.false c.first_holding.ensures _ _ c.in-Some-first_holding.is)

pub returns-in-None : goal.returns-in-None
unfolding of_bits round
returns-in-None c =
    none-holds c.args.windows.now c.args.minute _ _ _ c.first_bad_edge.ensures c.in_default.is c.first_bad_step.ensures
    c.in_default-first_bad_step.is c.if-minute-ge-WEEK_MINUTES.false c.first_holding.ensures c.in-None.is
