-- The entry with an index in a table, and where it stands in the image.
use Rattle.std.specs.Prelude.{ℕ, zero, suc, ◌+◌, List, [], ◌∷◌, length, Some, None}
use Rattle.std.specs.Prelude.{Option as CodeOption}
use Rattle.std.proofs.Math.Option.{Option, some, none}
use Rattle.wire.specs.Parse.{Parsed, ok, refused}
use Rattle.table.specs.declared.entry.EntryView.{EntryView}
use Rattle.table.specs.Table.{PitchEntry, CoeffTable}
use Rattle.table.specs.Size.{entry_size}
use Rattle.table.specs.View.{view_of}

-- of entries that stand from a position on, each at the end of the one before it
unfoldable pub view_from : ℕ → List PitchEntry → ℕ → Option EntryView
view_from at [] i = none
view_from at (e ∷ es) zero = some (view_of at e)
view_from at (e ∷ es) (suc i) = view_from (at + entry_size e) es i

-- of a table: entry 0 stands after the mark, the version, the name with its length, and the entry count
abbrev pub view_of_index : Parsed CoeffTable → ℕ → Option EntryView
view_of_index (ok t end) i = view_from (14 + length t.name) t.entries i
view_of_index (refused r) i = none

abbrev pub found_view : CodeOption EntryView → Option EntryView
found_view (Some v) = some v
found_view None = none
