-- What the desk gets after questions 1 to 7: a voice's band count, and the noise-band span from the table's first entry.
use Rattle.std.specs.Prelude.{cond, ℕ, max, List, [], ◌∷◌, pos, Result, Ok, Err}
use Rattle.std.proofs.Math.Option.{Option, some, none}
use Rattle.std.specs.Float.{binary32}
use Rattle.std.specs.Float.Ieee.{of_int, to_bits}
use Rattle.wire.specs.Parse.{Refusal, Parsed, ok, refused}
use Rattle.table.specs.declared.desk.Kind.{Kind}
use Rattle.table.specs.declared.desk.Desk.{Desk}
use Rattle.table.specs.declared.error.CoeffTableCodecError.{CoeffTableCodecError}
use Rattle.table.specs.Table.{PitchEntry, CoeffTable, has_channel, metadata_value}
use Rattle.table.specs.Span.{min_key, max_key}
use Rattle.table.specs.Answer.{refusal_of}

-- an entry's bands for a voice: a single voice of channel c has none from an entry without channel c, a blend has all
abbrev pub bands_of : Kind → PitchEntry → ℕ
bands_of (Kind.Single c) e = cond (has_channel e c) e.j_noise 0
bands_of Kind.Blend e = e.j_noise

-- a voice's j: the largest of them, 0 for none
unfoldable pub band_count : Kind → List PitchEntry → ℕ
band_count k [] = 0
band_count k (e ∷ es) = max (bands_of k e) (band_count k es)

-- a value, or a default
abbrev pub value_or : Option ℕ → ℕ → ℕ
value_or (some v) d = v
value_or none d = d

-- a key's value in the table's first entry, or a default
abbrev pub first_value : List ℕ → ℕ → List PitchEntry → ℕ
first_value key d [] = d
first_value key d (e ∷ es) = value_or (metadata_value key e.metadata) d

-- the span: the first entry's, or 80 and 12,000, as 32-bit patterns
unfoldable pub bits_of : ℕ → ℕ
bits_of n = to_bits binary32 (of_int binary32 (pos n))

abbrev pub span_min : List PitchEntry → ℕ
span_min es = first_value min_key (bits_of 80) es

abbrev pub span_max : List PitchEntry → ℕ
span_max es = first_value max_key (bits_of 12000) es

abbrev pub desk_of : Kind → List PitchEntry → Desk
desk_of k es = record { bands = band_count k es; min_hz = span_min es; max_hz = span_max es }

-- the desk's values, or why the image was refused
pub data Outcome : Type 0 where
  desk : Desk → Outcome
  refused_by : Refusal → Outcome

abbrev pub desk_outcome : Kind → Parsed CoeffTable → Outcome
desk_outcome k (ok t end) = desk (desk_of k t.entries)
desk_outcome k (refused r) = refused_by r

abbrev pub desk_answer : Result Desk CoeffTableCodecError → Outcome
desk_answer (Ok d) = desk d
desk_answer (Err e) = refused_by (refusal_of e)
