-- One entry where it stands in an image. Cited by private functions only.
use Rattle.table.specs.Table.{PitchEntry}
use Rattle.table.specs.View.{entry_at}
use Rattle.making.specs.declared.entry.Entry.{Entry}

-- the entry that a view of an image is of
abbrev pub entry_in : Entry → PitchEntry
entry_in e = entry_at e.image.now e.view
