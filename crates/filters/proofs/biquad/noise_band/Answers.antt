-- `noise_band` meets its contract.
use Rattle.std.proofs.Common.{T, sym, subst}
use lib.Ieee.{Float, of_bits, round}
use Rattle.filters.specs.inner.Ranges.{Phase}
use Rattle.filters.specs.Biquad.{turn, turn_quarter}
use Rattle.filters.proofs.BandLaws.{turn-phase, turn-quarter-phase}
use Rattle.filters.proofs.biquad.noise_band.Goals as goal

pub biquad_bpf_coeffs-requires : goal.biquad_bpf_coeffs-requires
biquad_bpf_coeffs-requires c =
    let rate = c.args.sample_rate in
    let e = sym c.band_center.ensures in record {
      is_table = c.table-wave.ensures;
      sine_phase = subst (λ (z : Float). Phase (turn z rate)) e (turn-phase rate (subst T (sym c.well_formed.1.0.1) tt) c.requires c.args.raw);
      cosine_phase = subst (λ (z : Float). Phase (turn_quarter z rate)) e (turn-quarter-phase rate (subst T (sym c.well_formed.1.0.1) tt) c.requires c.args.raw);
    }

pub returns : goal.returns
unfolding of_bits round
returns c = rw (c.biquad_bpf_coeffs.ensures, c.band_center.ensures)
