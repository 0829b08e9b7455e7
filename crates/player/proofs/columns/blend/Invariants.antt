use Rattle.std.proofs.Common.{◌+◌, ◌*◌, get_or}
use Rattle.std.specs.Prelude.{Float}
use Rattle.std.specs.Float.{nan}
use Rattle.float.specs.F32.{◌⊕◌, ◌⊗◌, quotient}
use Rattle.voice.specs.Lists.{steps}
use Rattle.player.specs.inner.Columns.{Filled, GivesAll}
use Rattle.player.proofs.columns.blend.Given as goal

abbrev pub invariant-loop-q : goal.invariant-loop-q
invariant-loop-q g l =
    goal.F-IsAlwaysCallable g l.share
    × ((f : Float → Float) → GivesAll (goal.F-post g l.share) f
    → Filled l.xs (λ i. steps (λ q y. y ⊕ f (get_or l.gains q nan ⊗ get_or l.rows (q * 32 + i) nan)) (quotient 0 1) l.q) l.n)
