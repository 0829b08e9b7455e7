-- The share t of a frequency between the pitches of two neighbours.
use Rattle.std.specs.Prelude.{Float}
use Rattle.float.specs.F32.{◌⊖◌, ◌⊘◌}

-- t = (f0 - lo) / (hi - lo)
abbrev pub share_of : Float → Float → Float → Float
share_of lo f0 hi = (f0 ⊖ lo) ⊘ (hi ⊖ lo)
