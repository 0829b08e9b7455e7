-- How much of a partial is audible as its frequency nears Nyquist: all of it below the guard band, none from Nyquist on, in between a
-- straight line.
use Rattle.std.specs.Prelude.{cond, Float}
use Rattle.std.specs.Float.Ieee.{le}
use Rattle.float.specs.F32.{◌⊖◌, ◌⊗◌, ◌⊘◌, quotient}

-- the share of the range below Nyquist in which a partial fades
abbrev pub guard_fraction : Float
guard_fraction = quotient 5 100

-- where the guard band starts
abbrev pub guard_start : Float → Float
guard_start nyquist = nyquist ⊗ (quotient 1 1 ⊖ guard_fraction)

-- a comparison with a NaN is false, so a NaN comes to the quotient
unfoldable pub nyquist_fade : Float → Float → Float
nyquist_fade freq nyquist =
    cond (le nyquist (quotient 0 1)) (quotient 0 1)
    (cond (le freq (guard_start nyquist)) (quotient 1 1)
    (cond (le nyquist freq) (quotient 0 1)
    ((nyquist ⊖ freq) ⊘ (nyquist ⊖ guard_start nyquist))))
