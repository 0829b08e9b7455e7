-- Views that are kept while entries are read. Cited by private functions only.
use Rattle.std.specs.Prelude.{ℕ, ◌+◌, List, [], ◌∷◌, set}
use Rattle.table.specs.declared.entry.EntryView.{EntryView}
use Rattle.table.specs.Table.{PitchEntry}
use Rattle.table.specs.Size.{entry_size}
use Rattle.table.specs.View.{view_of}

-- the views of entries put into a list one after the other, from place i on; past the list's end none is kept
unfoldable pub put_views : List EntryView → ℕ → ℕ → List PitchEntry → List EntryView
put_views views i at [] = views
put_views views i at (e ∷ es) = put_views (set views i (view_of at e)) (i + 1) (at + entry_size e) es
