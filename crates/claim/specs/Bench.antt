-- Document 01's bench examples P1 to P11, as one list.
use Rattle.std.specs.Prelude.{ℕ, ◌^◌, ◌≡◌, List, [], ◌∷◌, ◌++◌, false, length, Float}
use Rattle.std.specs.Float.Ieee.Exact.{HasValue}
use Rattle.wire.specs.Parse.{refusal, ok, refused}
use Rattle.table.specs.Decode.{decode}
use Rattle.table.specs.Answer.{counts}
use Rattle.table.specs.Rewrite.{rewriting, rewritten}
use Rattle.player.specs.declared.pitch.bracket.Bracket.{Bracket}
use Rattle.float.specs.F32.{quotient}
use Rattle.wave_table.specs.Wave.{quarter_of}
use Rattle.player.specs.Phase.{advance_of}
use Rattle.filters.specs.Rng.{new_rng, next_bipolar}
use Rattle.player.specs.Bracket.{bracket_of}

-- `4D 53 43 54`, a version, then eight zero bytes
abbrev pub empty_table : ℕ → List ℕ
empty_table version = 0x4D ∷ 0x53 ∷ 0x43 ∷ 0x54 ∷ version ∷ 0 ∷ 0 ∷ 0 ∷ 0 ∷ 0 ∷ 0 ∷ 0 ∷ 0 ∷ 0 ∷ []

abbrev pub three_pitches : List Float
three_pitches = quotient 100 1 ∷ quotient 200 1 ∷ quotient 400 1 ∷ []

abbrev pub four_pitches : List Float
four_pitches = quotient 100 1 ∷ quotient 200 1 ∷ quotient 200 1 ∷ quotient 400 1 ∷ []

pub record Bench : Type 0 where
  -- accepted, 0 entries, end 14
  pub p1 : counts (decode (empty_table 1)) ≡ ok 0 14
  -- version 2: refusal 4, 2
  pub p2 : counts (decode (empty_table 2)) ≡ refused (refusal 4 2 0)
  -- `4D 53 43`: 2
  pub p3 : counts (decode (0x4D ∷ 0x53 ∷ 0x43 ∷ [])) ≡ refused (refusal 2 0 0)
  -- first byte 4E: 3
  pub p4 : counts (decode (0x4E ∷ 0x53 ∷ 0x43 ∷ 0x54 ∷ 1 ∷ 0 ∷ 0 ∷ 0 ∷ 0 ∷ 0 ∷ 0 ∷ 0 ∷ 0 ∷ 0 ∷ [])) ≡ refused (refusal 3 0 0)
  -- name length 1, byte FF: 5
  pub p5 : counts (decode (0x4D ∷ 0x53 ∷ 0x43 ∷ 0x54 ∷ 1 ∷ 0 ∷ 1 ∷ 0 ∷ 0 ∷ 0 ∷ 0xFF ∷ [])) ≡ refused (refusal 5 0 0)
  -- P1 with version 0 rewrites to P1, whatever the target held: accepted, 0 entries, 14 bytes written. Bytes beyond stay.
  pub p6 : (target beyond : List ℕ) → length target ≡ 14
      → (rewriting (decode (empty_table 0)) (length (target ++ beyond)) ≡ ok 0 14)
      × (rewritten (decode (empty_table 0)) (target ++ beyond) ≡ empty_table 1 ++ beyond)
  -- a target of 13 bytes: 17, and it stays
  pub p6-short : (target : List ℕ) → length target ≡ 13
      → (rewriting (decode (empty_table 0)) (length target) ≡ refused (refusal 17 0 0)) × (rewritten (decode (empty_table 0)) target ≡ target)
  -- T at 0, 1, 64, 128, 256
  pub p7 : (quarter_of 0 ≡ 0) × (quarter_of 1 ≡ 51471) × (quarter_of 64 ≡ 3210683) × (quarter_of 128 ≡ 5934197) × (quarter_of 256 ≡ 8388608)
  -- phase 0.75 gaining 0.5 is 0.25
  pub p8 : advance_of (quotient 3 4) (quotient 1 2) ≡ quotient 1 4
  -- seed 0 steps to 1015568748, read as 15868262 / 2^25
  pub p9 : ((next_bipolar (new_rng 0)).rng.state ≡ 1015568748) × HasValue (next_bipolar (new_rng 0)).value false 15868262 (2 ^ 25)
  -- pitches 100, 200, 400: 100 gives entry 0; 200 gives 1 and 2, t = 0; 300 the same pair, t = 0.5; 400 entry 2
  pub p10 : (bracket_of three_pitches 3 (quotient 100 1) ≡ Bracket.One 0)
      × (bracket_of three_pitches 3 (quotient 200 1) ≡ Bracket.Between 1 2 (quotient 0 1))
      × (bracket_of three_pitches 3 (quotient 300 1) ≡ Bracket.Between 1 2 (quotient 1 2))
      × (bracket_of three_pitches 3 (quotient 400 1) ≡ Bracket.One 2)
  -- pitches 100, 200, 200, 400 at 200: entries 2 and 3
  pub p11 : bracket_of four_pitches 4 (quotient 200 1) ≡ Bracket.Between 2 3 (quotient 0 1)
