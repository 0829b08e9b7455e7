-- `band_terms` meets its contract.
use Rattle.player.specs.inner.Columns.{band_term}
use Rattle.player.proofs.noise.sum.band_terms.Goals as goal

pub returns : goal.returns
unfolding band_term
returns c = c.fill_terms.ensures _ (λ l r h e. e)
