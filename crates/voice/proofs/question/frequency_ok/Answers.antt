-- `frequency_ok` meets its contract.
use Rattle.std.proofs.Common.{◌∙◌, sym, ap}
use Rattle.std.specs.Prelude.{not}
use Rattle.std.specs.Float.Ieee.{of_bits, round}
use Rattle.voice.proofs.question.frequency_ok.Goals as goal
use Rattle.voice.proofs.question.frequency_ok.Goals.{then-is_finite, else-is_finite}

pub returns : goal.returns
unfolding of_bits round
returns c =
    elim c.if-is_finite.branch [
      | then-is_finite w ↦ rw (sym c.is_finite.ensures ∙ w.if-is_finite.true) (ap not w.result-is)
      | else-is_finite w ↦ rw (sym c.is_finite.ensures ∙ w.if-is_finite.false) (ap not (w.result-is ∙ w.if-is_finite.false))
    ]
