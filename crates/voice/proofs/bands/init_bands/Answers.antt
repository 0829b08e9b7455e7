-- `init_bands` meets its contract.
use mathlib.Core.Path.{◌≡◌, refl, ap}
use native.Mathlib.Omega.{arith}
use lib.Ieee.{Float, nan, of_bits, round}
use Rattle.float.specs.F32.{quotient}
use Rattle.filters.specs.Band.{zero_coeffs, band_from}
use Rattle.filters.specs.declared.band.Band.{Band}
use Rattle.std.proofs.lemmas.List.{take_all}
use Rattle.voice.proofs.PadLaws.{pad-again}
use borrow.Author.Rules.{rules}
use Rattle.voice.proofs.bands.init_bands.Goals as goal

pub loop-i-init : goal.loop-i-init
unfolding of_bits round
loop-i-init c = (rw c.zero_coeffs-zero.ensures refl, refl)

pub loop-i-preserved : goal.loop-i-preserved
loop-i-preserved c =
    let rate = c.args.sample_rate in (
      rw (ap (λ (b : Band). b.coeffs) c.init_band-band.ensures)
          (pad-again (λ (c : Float). (band_from c rate).coeffs) zero_coeffs nan 16 c.loop-i.i c.args.centres.now c.loop-i.coeffs (search rules) (omega (arith, c.requires)) c.loop-i.invariant.0),
      rw (ap (λ (b : Band). b.compensation) c.init_band-band.ensures)
          (pad-again (λ (c : Float). (band_from c rate).compensation) (quotient 0 1) nan 16 c.loop-i.i c.args.centres.now c.loop-i.compensation (search rules) (omega (arith, c.requires)) c.loop-i.invariant.1),
    )

pub returns : goal.returns
returns c =
    rw (c.loop-i.invariant.0, c.loop-i.invariant.1, take_all c.loop-i.i c.args.centres.now (omega arith)) refl
