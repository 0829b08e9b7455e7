-- `biquad_bpf_coeffs` meets its contract.
use lib.Ieee.{of_bits, round, neg}
use Rattle.filters.specs.Biquad.{band_pass}
use Rattle.filters.proofs.biquad.biquad_bpf_coeffs.Goals as goal

pub returns : goal.returns
unfolding of_bits round neg band_pass
returns c = rw (c.normalize.ensures, c.biquad_params-p.ensures)
