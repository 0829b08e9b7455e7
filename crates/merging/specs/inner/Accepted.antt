-- What an accepted image is read as. Cited by private functions only.
use Rattle.wire.specs.Parse.{Parsed}
use Rattle.table.specs.Table.{CoeffTable}
use Rattle.table.specs.Decode.{decode}
use Rattle.merging.specs.declared.accepted.Accepted.{Accepted}

abbrev pub read_as : Accepted → Parsed CoeffTable
read_as a = decode a.image.now
