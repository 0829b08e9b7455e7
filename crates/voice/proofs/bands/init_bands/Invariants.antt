use Rattle.std.proofs.Common.{◌≡◌, map, take}
use Rattle.float.specs.F32.{quotient}
use Rattle.filters.specs.Band.{zero_coeffs, band_from}
use Rattle.voice.specs.Lists.{padded}
use Rattle.voice.proofs.bands.init_bands.Given as goal

abbrev pub invariant-loop-i : goal.invariant-loop-i
invariant-loop-i l =
    (l.coeffs ≡ padded 16 zero_coeffs (map (λ c. (band_from c l.sample_rate).coeffs) (take l.i l.centres)))
    × (l.compensation ≡ padded 16 (quotient 0 1) (map (λ c. (band_from c l.sample_rate).compensation) (take l.i l.centres)))
