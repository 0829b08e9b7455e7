-- What the code's answers mean: each refusal has its question's number and the values that it names (0 where it names none).
use Rattle.std.specs.Prelude.{ℕ, List, length, Result, Ok, Err, Some, None}
use Rattle.std.specs.Prelude.{Option as CodeOption}
use Rattle.std.proofs.Math.Option.{Option, some, none}
use Rattle.wire.specs.Parse.{Refusal, refusal, Parsed, ok, refused}
use Rattle.table.specs.declared.error.CoeffTableCodecError.{CoeffTableCodecError}
use Rattle.table.specs.declared.entry.EntryView.{EntryView}
use Rattle.table.specs.declared.read.Counts.{Counts}
use Rattle.table.specs.Table.{PitchEntry, CoeffTable}
use Rattle.table.specs.View.{entry_at}

abbrev pub refusal_of : CoeffTableCodecError → Refusal
refusal_of CoeffTableCodecError.TooLong = refusal 1 0 0
refusal_of CoeffTableCodecError.UnexpectedEof = refusal 2 0 0
refusal_of CoeffTableCodecError.BadMagic = refusal 3 0 0
refusal_of (CoeffTableCodecError.UnsupportedVersion v) = refusal 4 v 0
refusal_of CoeffTableCodecError.BadUtf8 = refusal 5 0 0
refusal_of (CoeffTableCodecError.MalformedEntry i) = refusal 6 i 0
refusal_of (CoeffTableCodecError.InconsistentNoiseBandSpan f i) = refusal 7 f i

-- `from_bytes`: the entry count and the end of the last entry
abbrev pub reading_parsed : Result Counts CoeffTableCodecError → Parsed ℕ
reading_parsed (Ok c) = ok c.entries c.end
reading_parsed (Err e) = refused (refusal_of e)

abbrev pub counts : Parsed CoeffTable → Parsed ℕ
counts (ok t end) = ok (length t.entries) end
counts (refused r) = refused r

-- a metadata value: its bits, or that there is none
abbrev pub found_bits : CodeOption ℕ → Option ℕ
found_bits (Some v) = some v
found_bits None = none

-- an entry, and where it ends
abbrev pub entry_parsed : List ℕ → Result EntryView CoeffTableCodecError → Parsed PitchEntry
entry_parsed s (Ok v) = ok (entry_at s v) v.end
entry_parsed s (Err e) = refused (refusal_of e)
