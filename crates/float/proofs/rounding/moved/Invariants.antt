use Prim.Native.Nat.{◌+◌, ◌-◌, ◌*◌, ◌^◌, ◌<◌, ◌≤◌}
use Rattle.float.proofs.rounding.moved.Given as goal

abbrev pub invariant-loop-h : goal.invariant-loop-h
invariant-loop-h l = (l.n < 2 ^ 48) × (0 < l.n) × (l.h ≤ 16777216)

abbrev pub decreases-loop-h : goal.decreases-loop-h
decreases-loop-h l = l.h

abbrev pub invariant-loop-h-2 : goal.invariant-loop-h-2
invariant-loop-h-2 l = (l.n < 2 ^ 48) × (l.h * l.h < l.n + l.h) × (l.h ≤ 16777216)

abbrev pub decreases-loop-h-2 : goal.decreases-loop-h-2
decreases-loop-h-2 l = l.n - l.h
