use Rattle.std.proofs.Common.{◌≡◌, length, get_or}
use Rattle.std.specs.Float.{nan}
use Rattle.player.specs.inner.Columns.{Filled}
use Rattle.player.specs.inner.Sines.{line_at}
use Rattle.player.proofs.ColumnLaws.{KeptFrom}
use Rattle.player.proofs.partials.sines.values.Given as goal

-- the places before i are done, the others as they were
abbrev pub invariant-loop-i : goal.invariant-loop-i
invariant-loop-i l =
    (length l.sines ≡ 32) × Filled l.sines (λ j. line_at (get_or l.initial.sines j nan) (get_or l.rests j nan) (get_or l.rises j nan)) l.i
    × KeptFrom l.sines l.initial.sines l.i
