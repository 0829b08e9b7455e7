-- A play's arguments, and its inputs: each has a number of channels, 0 for unconnected, and a slice that holds them, one after the other.
use Rattle.std.specs.Prelude.{ℕ, ◌*◌, ◌%◌, List, [], ◌∷◌, Bool, true, cond, not, ◌&&◌, ◌||◌, length, get_or, take, drop, leb, eqb, Float}
use Rattle.std.specs.Float.{nan}
use Rattle.std.specs.Float.Ieee.{lt}
use Rattle.std.specs.Float.Ieee.Scale.{finite}
use Rattle.float.specs.F32.{quotient}
use Rattle.voice.specs.Lists.{every}
use Rattle.voice.specs.Limits.{max_channels, max_hz}
use Rattle.voice.specs.declared.inputs.Inputs.{Inputs}
use Rattle.voice.specs.declared.shape.Shape.{Shape}

-- all that a play is handed but the voice and the output: the block's numbers, and the slices of the frequency and of the four gains
pub record Call : Type 0 where
  pub shape : Shape
  pub freq : List Float
  pub g0 : List Float
  pub g1 : List Float
  pub g2 : List Float
  pub g3 : List Float

abbrev pub call : Shape → List Float → List Float → List Float → List Float → List Float → Call
call b freq g0 g1 g2 g3 = record { shape = b; freq = freq; g0 = g0; g1 = g1; g2 = g2; g3 = g3 }

-- the same of the five slices together, as they are lent
abbrev pub call_of : Shape → Inputs → Call
call_of b inputs = call b inputs.freq.now inputs.g0.now inputs.g1.now inputs.g2.now inputs.g3.now

-- the part of an input of k channels that output channel ch of n samples reads: input channel ch modulo k, or nothing where it is
-- unconnected
unfoldable pub part_of : ℕ → List Float → ℕ → ℕ → List Float
part_of k s n ch = cond (eqb k 0) [] (take n (drop ((ch % k) * n) s))

-- what is read at sample i of a part; unconnected, the frequency is 220, gain 0 is 1, the others 0
abbrev pub frequency_of : List Float → ℕ → Float
frequency_of part i = get_or part i (quotient 220 1)

abbrev pub gains_of : List Float → List Float → List Float → List Float → ℕ → List Float
gains_of g0 g1 g2 g3 i = get_or g0 i (quotient 1 1) ∷ get_or g1 i (quotient 0 1) ∷ get_or g2 i (quotient 0 1) ∷ get_or g3 i (quotient 0 1) ∷ []

-- what output channel ch reads at sample i
abbrev pub frequency_at : Call → ℕ → ℕ → Float
frequency_at c ch = frequency_of (part_of c.shape.freq c.freq c.shape.samples ch)

abbrev pub gains_at : Call → ℕ → ℕ → List Float
gains_at c ch =
    let n = c.shape.samples in
    gains_of (part_of c.shape.g0 c.g0 n ch) (part_of c.shape.g1 c.g1 n ch) (part_of c.shape.g2 c.g2 n ch)
    (part_of c.shape.g3 c.g3 n ch)

-- question 15 of one input: is it unconnected, or 1 to 8 channels of the block's length, its slice exactly that long?
abbrev pub input_ok : ℕ → ℕ → ℕ → Bool
input_ok k n len = eqb k 0 || (leb k max_channels && eqb (k * n) len)

-- and of all five, by the lengths of their slices; also of gains that the voice does not sound by
abbrev pub inputs_of : Shape → ℕ → ℕ → ℕ → ℕ → ℕ → Bool
inputs_of b f l0 l1 l2 l3 =
    input_ok b.freq b.samples f
    && (input_ok b.g0 b.samples l0 && (input_ok b.g1 b.samples l1 && (input_ok b.g2 b.samples l2 && input_ok b.g3
    b.samples l3)))

abbrev pub inputs_ok : Call → Bool
inputs_ok c = inputs_of c.shape (length c.freq) (length c.g0) (length c.g1) (length c.g2) (length c.g3)

-- question 16: is every finite frequency of a connected input at most 20,000? (All of the slice is asked.)
abbrev pub frequency_ok : Float → Bool
frequency_ok f = cond (finite f) (not (lt (quotient max_hz 1) f)) true

abbrev pub frequencies_ok : ℕ → List Float → Bool
frequencies_ok k s = eqb k 0 || every (λ i. frequency_ok (get_or s i nan)) (length s)

-- the frequency that is played: one that is not finite, negative or -0 becomes 0
unfoldable pub cleaned : Float → Float
cleaned f = cond (finite f) (cond (lt (quotient 0 1) f) f (quotient 0 1)) (quotient 0 1)
