use Rattle.std.proofs.Common.{◌≡◌}
use lib.Bits.{bit_xor}
use Rattle.console.specs.Crc.{crc_bits}
use Rattle.console.proofs.crc.byte.Given as goal

abbrev pub invariant-loop-i : goal.invariant-loop-i
invariant-loop-i l = l.r ≡ crc_bits (bit_xor l.c l.b) l._i
