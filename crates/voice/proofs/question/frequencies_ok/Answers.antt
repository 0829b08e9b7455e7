-- `frequencies_ok` meets its contract.
use borrow.Author.Tests.{ne_eqb}
use lib.Ieee.{nan}
use Rattle.voice.specs.Input.{frequency_ok}
use Rattle.voice.proofs.question.frequencies_ok.Goals as goal

pub returns-else-k-eq0 : goal.returns-else-k-eq0
returns-else-k-eq0 c = rw (ne_eqb _ _ c.if-k-eq0.false) (c.all_of.ensures frequency_ok nan (λ i r l h. h))
