use Rattle.std.proofs.Common.{◌≡◌, ℕ, get_or, length}
use Rattle.std.specs.Prelude.{Float}
use Rattle.std.specs.Float.{nan}
use Rattle.player.specs.inner.Columns.{audible, Filled, GivesEach}
use Rattle.player.proofs.columns.fill_terms.Given as goal

abbrev pub invariant-loop-i : goal.invariant-loop-i
invariant-loop-i g l =
    (length l.terms ≡ 32) × ((f : ℕ → Float) → GivesEach (goal.F-post g l.term) l.n f → Filled l.terms (λ i. audible (get_or l.coeffs i nan) (f i)) l.i)
