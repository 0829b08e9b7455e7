use Rattle.std.proofs.Common.{◌≡◌, length, get_or}
use Rattle.std.specs.Float.{nan}
use Rattle.player.specs.inner.Columns.{Filled}
use Rattle.player.specs.inner.Sines.{index_of, cell_start, cell_rise}
use Rattle.player.proofs.partials.sines.lines.Given as goal

-- the places before i are done
abbrev pub invariant-loop-i : goal.invariant-loop-i
invariant-loop-i l =
    (length l.starts ≡ 32) × (length l.rises ≡ 32) × Filled l.starts (λ j. cell_start (index_of (get_or l.cells j nan))) l.i
    × Filled l.rises (λ j. cell_rise (index_of (get_or l.cells j nan))) l.i
