-- `biquad_params` meets its contract.
use Rattle.std.proofs.Common.{◌∙◌}
use lib.Ieee.{binary32, of_bits, round}
use lib.Ieee.Fits.{div-fits, add-fits}
use Rattle.float.specs.F32.{quotient}
use Rattle.filters.specs.Biquad.{turn, params_of}
use Rattle.filters.proofs.SineLaws.{sine-in}
use Rattle.filters.proofs.biquad.biquad_params.Goals as goal

pub returns : goal.returns
unfolding of_bits round params_of
returns c = rw ((c.sine-cos_w0.ensures ∙ sine-in c.args.t.now c.requires.is_table _ (add-fits binary32 (turn c.args.freq c.args.sample_rate) (quotient 1 4)) c.requires.cosine_phase), (c.sine-sin_w0.ensures ∙ sine-in c.args.t.now c.requires.is_table _ (div-fits binary32 c.args.freq c.args.sample_rate) c.requires.sine_phase))
