-- `table` meets its contract: the constant's 257 numbers pass the test.
use Rattle.wave_table.specs.Wave.{quarter_of}
use Rattle.wave_table.proofs.Entries.{entry_ruled, table_is}
use Rattle.wave_table.proofs.quarter.table.Goals as goal

pub returns : goal.returns
unfolding entry_ruled quarter_of
returns c = table_is _ tt
