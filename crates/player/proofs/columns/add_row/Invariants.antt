use Rattle.std.proofs.Common.{◌≡◌, ◌+◌, ◌*◌, get_or, length}
use Rattle.std.specs.Prelude.{Float}
use Rattle.std.specs.Float.{nan}
use Rattle.float.specs.F32.{◌⊕◌, ◌⊗◌}
use Rattle.player.specs.inner.Columns.{Filled, GivesAll}
use Rattle.player.proofs.ColumnLaws.{KeptFrom}
use Rattle.player.proofs.columns.add_row.Given as goal

abbrev pub invariant-loop-i : goal.invariant-loop-i
invariant-loop-i g l =
    (length l.xs ≡ 32) × KeptFrom l.xs l.initial.xs l.i
    × ((f : Float → Float) → GivesAll (goal.F-post g l.share) f
    → Filled l.xs (λ i. get_or l.initial.xs i nan ⊕ f (l.gain ⊗ get_or l.rows (l.q * 32 + i) nan)) l.i)
