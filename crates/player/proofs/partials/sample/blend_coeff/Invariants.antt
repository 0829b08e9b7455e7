use Rattle.std.proofs.Common.{◌≡◌}
use Rattle.player.specs.Sound.{blend_coeff, partial_row}
use Rattle.player.proofs.partials.sample.blend_coeff.Given as goal

abbrev pub invariant-loop-q : goal.invariant-loop-q
invariant-loop-q l = l.y ≡ blend_coeff (λ q'. partial_row l.partials l.s q' l.i) l.gains l.q
