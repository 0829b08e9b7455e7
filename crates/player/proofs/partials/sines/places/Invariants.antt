use Rattle.std.proofs.Common.{◌≡◌, length, get_or}
use Rattle.std.specs.Float.{nan}
use Rattle.filters.specs.Wave.{rest_of}
use Rattle.player.specs.inner.Columns.{Filled}
use Rattle.player.specs.inner.Sines.{cell_float, AllCells}
use Rattle.player.proofs.partials.sines.places.Given as goal

-- the places before i are done
abbrev pub invariant-loop-i : goal.invariant-loop-i
invariant-loop-i l =
    (length l.cells ≡ 32) × (length l.rests ≡ 32) × Filled l.cells (λ j. cell_float (get_or l.phases j nan)) l.i
    × AllCells l.cells l.i × Filled l.rests (λ j. rest_of (get_or l.phases j nan)) l.i
