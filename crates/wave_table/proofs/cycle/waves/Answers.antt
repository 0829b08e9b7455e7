-- `waves` meets its contract: the constant's 1025 numbers pass the test.
use lib.Ieee.{of_bits, neg, of_int}
use Rattle.wave_table.specs.Wave.{quarter_of, wave_of}
use Rattle.wave_table.proofs.Alike.{alike, waved, waves-is}
use Rattle.wave_table.proofs.cycle.waves.Goals as goal

pub returns : goal.returns
unfolding waved alike wave_of quarter_of of_int of_bits neg
returns c = waves-is _ tt
