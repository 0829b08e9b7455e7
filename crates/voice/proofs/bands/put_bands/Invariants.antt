use Rattle.std.proofs.Common.{◌≡◌, ◌++◌, ◌+◌, ◌*◌, take, drop, get_or}
use Rattle.filters.specs.Band.{zero_coeffs}
use Rattle.voice.specs.Lists.{join_to}
use Rattle.voice.specs.Bands.{coeff_floats}
use Rattle.voice.proofs.bands.put_bands.Given as goal

abbrev pub invariant-loop-b : goal.invariant-loop-b
invariant-loop-b l = l.lists ≡ (take 64 l.initial.lists ++ join_to (λ b. coeff_floats (get_or l.c-items b zero_coeffs)) l.b) ++ drop (64 + l.b * 5) l.initial.lists
