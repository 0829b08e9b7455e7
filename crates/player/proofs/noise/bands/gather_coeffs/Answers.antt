-- `gather_coeffs` meets its contract.
use Rattle.player.proofs.BandColumns.{rows-are-coeffs}
use Rattle.player.proofs.noise.bands.gather_coeffs.Goals as goal

pub returns : goal.returns
returns c = rows-are-coeffs _ _ _ _ (c.fill_rows.ensures _ (λ q l r h k e. e))
