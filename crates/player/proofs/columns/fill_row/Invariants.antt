use Rattle.std.proofs.Common.{ℕ, ◌+◌}
use Rattle.std.specs.Prelude.{Float}
use Rattle.player.specs.inner.Columns.{FilledRows, GivesRows}
use Rattle.player.proofs.ColumnLaws.{RowFilled}
use Rattle.player.proofs.columns.fill_row.Given as goal

abbrev pub invariant-loop-i : goal.invariant-loop-i
invariant-loop-i g l =
    (f : ℕ → ℕ → Float) → GivesRows (goal.F-post g l.value) (l.q + 1) l.n f → FilledRows l.initial.rows f l.q l.n
    → FilledRows l.rows f l.q l.n × RowFilled l.rows (f l.q) l.q l.i
