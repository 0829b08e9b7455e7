-- Live bands as the code holds them. Cited by private functions only.
use Rattle.std.specs.Prelude.{ℕ, ◌+◌, List, length, set}
use Rattle.voice.specs.Lists.{padded}
use Rattle.voice.specs.Limits.{max_bands}
use Rattle.making.specs.declared.live.Live.{Live}

-- a list of bands in 16 places
abbrev pub live_of : List ℕ → Live
live_of l = record { bands = padded max_bands 0 l; count = length l }

-- one band more
abbrev pub with_live : Live → ℕ → Live
with_live live b = record { bands = set live.bands live.count b; count = live.count + 1 }
