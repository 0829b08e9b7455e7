use Rattle.std.proofs.Common.{◌≡◌, drop}
use Rattle.console.specs.Crc.{crc_bytes}
use Rattle.console.proofs.crc.update.Given as goal

abbrev pub invariant-loop-b : goal.invariant-loop-b
invariant-loop-b l = crc_bytes l.r (drop l.b-index l.s) ≡ crc_bytes l.c l.s
