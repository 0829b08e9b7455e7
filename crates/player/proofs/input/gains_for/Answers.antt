-- `gains_for` meets its contract.
use mathlib.Core.Path.{sym, ap, ◌∙◌, subst}
use mathlib.Core.List.{List}
use lib.Dec.{T}
use lib.ListN.{get_or}
use lib.Ieee.{Float, nan, of_bits, round}
use borrow.Author.Tests.{eq-eqb}
use Rattle.player.proofs.input.gains_for.Goals as goal

pub returns-then-blend-eq0 : goal.returns-then-blend-eq0
unfolding of_bits round
returns-then-blend-eq0 c =
    (c.read_or-a.ensures, λ q. absurd (subst T (sym (eq-eqb _ _ c.if-blend-eq0.true) ∙ q) tt))

pub returns : goal.returns
returns c =
    (ap (λ (l : List Float). get_or l 0 nan) c.gains_at.ensures, λ q. c.gains_at.ensures)
