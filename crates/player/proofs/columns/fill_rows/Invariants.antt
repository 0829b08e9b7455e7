use Rattle.std.proofs.Common.{ℕ}
use Rattle.std.specs.Prelude.{Float}
use Rattle.player.specs.inner.Columns.{FilledRows, GivesRows}
use Rattle.player.proofs.columns.fill_rows.Given as goal

abbrev pub invariant-loop-q : goal.invariant-loop-q
invariant-loop-q g l = (f : ℕ → ℕ → Float) → GivesRows (goal.F-post g l.value) l.k l.n f → FilledRows l.rows f l.q l.n
