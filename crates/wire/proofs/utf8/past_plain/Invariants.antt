use Prim.Native.Nat.{◌*◌}
use mathlib.Core.Path.{◌≡◌}
use lib.ListN.{drop}
use Rattle.wire.specs.Utf8.{utf8}
use Rattle.wire.proofs.utf8.past_plain.Given as goal

-- k blocks are passed over
abbrev pub invariant-loop-k : goal.invariant-loop-k
invariant-loop-k l = utf8 (drop (l.k * 64) l.s) ≡ utf8 l.s
