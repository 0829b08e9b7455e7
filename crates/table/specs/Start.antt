-- Where the entries of an image start.
use Rattle.std.specs.Prelude.{◌+◌, length}
use Rattle.wire.specs.Parse.{Parsed, ok, refused}
use Rattle.table.specs.Table.{CoeffTable}
use Rattle.table.specs.declared.start.Start.{Start}

-- the entry count, and the position past the mark (4 bytes), the version (2), the name with its length (4) and the count (4);
-- 0 and 0 of a refused image
abbrev pub start_of : Parsed CoeffTable → Start
start_of (ok t end) = record { count = length t.entries; at = 14 + length t.name }
start_of (refused r) = record { count = 0; at = 0 }
