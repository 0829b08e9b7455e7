use Rattle.std.proofs.Common.{◌≡◌, length}
use Rattle.tone.proofs.playing.bytes_of.Given as goal

abbrev pub invariant-loop-i : goal.invariant-loop-i
invariant-loop-i l = length l.bytes ≡ 512
