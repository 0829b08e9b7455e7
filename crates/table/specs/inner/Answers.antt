-- What the code's answers on the way mean. Cited by private functions only.
use Rattle.std.specs.Prelude.{ℕ, ◌+◌, ◌*◌, ◌≡◌, List, Bool, true, false, Result, Ok, Err}
use Rattle.wire.specs.declared.cursor.Cursor.{Cursor}
use Rattle.wire.specs.declared.cursor.Read.{Read}
use Rattle.wire.specs.declared.cursor.WireError.{WireError}
use Rattle.wire.specs.Parse.{Parsed, ok, refused}
use Rattle.wire.specs.Cursor.{part, wire_refusal}
use Rattle.table.specs.declared.metadata.PairView.{PairView}
use Rattle.table.specs.declared.entry.Counted.{Counted}
use Rattle.table.specs.declared.header.HeaderView.{HeaderView}
use Rattle.table.specs.declared.error.CoeffTableCodecError.{CoeffTableCodecError}
use Rattle.table.specs.Table.{Pair}
use Rattle.table.specs.Image.{Header}
use Rattle.table.specs.View.{word_list}
use Rattle.table.specs.Answer.{refusal_of}

-- a value was read
abbrev pub reads : {A : Type 0} → Parsed A → Bool
reads (ok a e) = true
reads (refused r) = false

-- a count's numbers, and where they end
abbrev pub counted_parsed : List ℕ → Result (Read Counted) WireError → Parsed (List ℕ)
counted_parsed s (Ok r) = ok (word_list s r.value.at r.value.count) r.next.at
counted_parsed s (Err e) = refused (wire_refusal e)

-- where a count's numbers stand, and where they end
abbrev pub CountPlaced : ℕ → Result (Read Counted) WireError → Type 0
CountPlaced start (Ok r) = (r.value.at ≡ start + 4) × (r.next.at ≡ start + 4 + 4 * r.value.count)
CountPlaced start (Err e) = Unit

-- a pair, and where it ends
abbrev pub pair_parsed : List ℕ → Result (Read PairView) CoeffTableCodecError → Parsed Pair
pair_parsed s (Ok r) = ok (record { key = part s r.value.key.start r.value.key.len; value = r.value.value }) r.next.at
pair_parsed s (Err e) = refused (refusal_of e)

-- past some pairs, of which only the end is kept
abbrev pub skipped_parsed : Result Cursor CoeffTableCodecError → Parsed Unit
skipped_parsed (Ok c) = ok tt c.at
skipped_parsed (Err e) = refused (refusal_of e)

abbrev pub skips : Parsed (List Pair) → Parsed Unit
skips (ok ps end) = ok tt end
skips (refused r) = refused r

-- a header, and where it ends
abbrev pub header_parsed : List ℕ → Result HeaderView CoeffTableCodecError → Parsed Header
header_parsed s (Ok h) = ok (record { version = h.version; name = part s h.name.start h.name.len; count = h.entries.count }) h.entries.at
header_parsed s (Err e) = refused (refusal_of e)
