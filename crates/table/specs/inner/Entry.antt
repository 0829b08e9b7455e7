-- The entries that stand at a position, and an entry in the parts that the code reads by themselves: twice two numbers with a counted list,
-- then the pairs. Cited by private functions only.
use Rattle.std.specs.Prelude.{ℕ, ◌+◌, ◌*◌, ◌≡◌, List, length, eqb, Result, Ok, Err}
use Rattle.wire.specs.declared.cursor.Read.{Read}
use Rattle.wire.specs.declared.cursor.WireError.{WireError}
use Rattle.wire.specs.Parse.{refusal, Parsed, ok, refused, Parser, pure, ◌>>=◌, ◌>>◌, require, standing}
use Rattle.wire.specs.Cursor.{u32, wire_refusal}
use Rattle.table.specs.declared.entry.Counted.{Counted}
use Rattle.table.specs.declared.entry.NumbersView.{NumbersView}
use Rattle.table.specs.declared.error.CoeffTableCodecError.{CoeffTableCodecError}
use Rattle.table.specs.Table.{Pair, PitchEntry}
use Rattle.table.specs.Image.{counted, pairs, entry}
use Rattle.table.specs.View.{word_list, pair_list}
use Rattle.table.specs.Answer.{refusal_of}

-- the entries that stand at a position, up to the first that cannot be read
abbrev pub entry_list : ℕ → List ℕ → ℕ → List PitchEntry
entry_list n s at = standing entry 0 n s at

-- two numbers, then a count and as many numbers
pub record Numbers : Type 0 where
  pub first : ℕ
  pub second : ℕ
  pub words : List ℕ

unfoldable pub numbers : Parser Numbers
numbers = do
  a ← u32
  b ← u32
  l ← counted
  pure (record { first = a; second = b; words = l })

-- a count and as many pairs
unfoldable pub metadata : Parser (List Pair)
metadata = do
  q ← u32
  pairs q

-- the entry: pitch, stretch and partial frequencies; channels, bands and coefficients; pairs; question 6
unfoldable pub entry_by : ℕ → Parser PitchEntry
entry_by i = do
  x ← numbers
  y ← numbers
  ms ← metadata
  require (eqb (y.first * (length x.words + y.second)) (length y.words)) (refusal 6 i 0)
  pure (record {
    f0_hz = x.first;
    stretch = x.second;
    partial_freqs = x.words;
    k_channels = y.first;
    j_noise = y.second;
    coefficients = y.words;
    metadata = ms;
  })

-- what the code answers, and where the parts stand
abbrev pub numbers_parsed : List ℕ → Result (Read NumbersView) WireError → Parsed Numbers
numbers_parsed s (Ok r) = ok
    (record { first = r.value.first; second = r.value.second; words = word_list s r.value.words.at r.value.words.count })
    r.next.at
numbers_parsed s (Err e) = refused (wire_refusal e)

abbrev pub NumbersPlaced : ℕ → Result (Read NumbersView) WireError → Type 0
NumbersPlaced start (Ok r) = (r.value.words.at ≡ start + 12) × (r.next.at ≡ start + 12 + 4 * r.value.words.count)
NumbersPlaced start (Err e) = Unit

abbrev pub pairs_parsed : List ℕ → Result (Read Counted) CoeffTableCodecError → Parsed (List Pair)
pairs_parsed s (Ok r) = ok (pair_list r.value.count s r.value.at) r.next.at
pairs_parsed s (Err e) = refused (refusal_of e)

abbrev pub PairsPlaced : List ℕ → ℕ → Result (Read Counted) CoeffTableCodecError → Type 0
PairsPlaced s start (Ok r) = (r.value.at ≡ start + 4) × (length (pair_list r.value.count s r.value.at) ≡ r.value.count)
PairsPlaced s start (Err e) = Unit
