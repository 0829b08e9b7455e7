use mathlib.Core.Path.{◌≡◌}
use mathlib.Core.List.{◌++◌}
use lib.ListN.{take, drop}
use Rattle.wire.proofs.copy.copy.Given as goal

-- the bytes before i are copied
abbrev pub invariant-loop-i : goal.invariant-loop-i
invariant-loop-i l = l.into ≡ take l.i l.from ++ drop l.i l.initial.into
