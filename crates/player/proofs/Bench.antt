-- Document 01's bench examples P7 to P11, against the definitions.
use mathlib.Core.Path.{◌≡◌, refl}
use Prim.Native.Nat.{◌^◌}
use mathlib.Core.List.{List, [], ◌∷◌}
use mathlib.Core.Bool.{false}
use lib.Ieee.{Float, round, add, sub, div, of_int, to_unsigned, lt, eq, le}
use lib.Ieee.Exact.{HasValue}
use Rattle.float.specs.F32.{quotient}
use Rattle.player.specs.Phase.{advance_of}
use Rattle.filters.specs.Rng.{bipolar_of, new_rng, next_bipolar}
use Rattle.wave_table.specs.Wave.{quarter_of}
use Rattle.player.specs.Bracket.{not_above, neighbours, bracket_of}
use Rattle.player.specs.declared.pitch.bracket.Bracket.{Bracket}

-- P7: T at 0, 1, 64, 128, 256
pub record P7 : Type 0 where
  pub at-0 : quarter_of 0 ≡ 0
  pub at_1 : quarter_of 1 ≡ 51471
  pub at-64 : quarter_of 64 ≡ 3210683
  pub at-128 : quarter_of 128 ≡ 5934197
  pub at-256 : quarter_of 256 ≡ 8388608

pub p7 : P7
unfolding quarter_of
p7 = record { at-0 = refl; at_1 = refl; at-64 = refl; at-128 = refl; at-256 = refl }

-- P8: phase 0.75 gaining 0.5 is 0.25
pub p8 : advance_of (quotient 3 4) (quotient 1 2) ≡ quotient 1 4
unfolding round add sub of_int to_unsigned
p8 = refl

-- P9: seed 0 steps to 1015568748, read as 15868262 / 2^25
pub record P9 : Type 0 where
  pub state : (next_bipolar (new_rng 0)).rng.state ≡ 1015568748
  pub value : HasValue (next_bipolar (new_rng 0)).value false 15868262 (2 ^ 25)

pub p9 : P9
unfolding bipolar_of round div of_int
p9 = record { state = refl; value = (refl, refl) }

-- P10: pitches 100, 200, 400: 100 gives entry 0; 200 gives 1 and 2, t = 0; 300 the same pair, t = 0.5; 400 entry 2
abbrev three_pitches : List Float
three_pitches = quotient 100 1 ∷ quotient 200 1 ∷ quotient 400 1 ∷ []

pub record P10 : Type 0 where
  pub at-100 : bracket_of three_pitches 3 (quotient 100 1) ≡ Bracket.One 0
  pub at-200 : bracket_of three_pitches 3 (quotient 200 1) ≡ Bracket.Between 1 2 (quotient 0 1)
  pub at-300 : bracket_of three_pitches 3 (quotient 300 1) ≡ Bracket.Between 1 2 (quotient 1 2)
  pub at-400 : bracket_of three_pitches 3 (quotient 400 1) ≡ Bracket.One 2

pub p10 : P10
unfolding bracket_of not_above neighbours round le lt eq add sub div
p10 = record { at-100 = refl; at-200 = refl; at-300 = refl; at-400 = refl }

-- P11: pitches 100, 200, 200, 400 at 200: entries 2 and 3
pub p11 : bracket_of (quotient 100 1 ∷ quotient 200 1 ∷ quotient 200 1 ∷ quotient 400 1 ∷ []) 4 (quotient 200 1) ≡ Bracket.Between 2 3 (quotient 0 1)
unfolding bracket_of not_above neighbours round le lt eq add sub div
p11 = refl
