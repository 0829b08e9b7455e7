use mathlib.Core.Path.{◌≡◌}
use Prim.Native.Nat.{◌-◌, max}
use Rattle.wire.specs.Parse.{standing}
use Rattle.table.specs.Image.{entry}
use Rattle.table.specs.inner.Entry.{entry_list}
use Rattle.table.specs.Desk.{band_count}
use Rattle.table.proofs.desk.bands_among.Given as goal

abbrev pub invariant-loop-i : goal.invariant-loop-i
invariant-loop-i l = max l.best (band_count l.kind (standing entry l.i (l.fn.start.count - l.i) l.s l.d.at)) ≡ band_count l.kind (entry_list l.fn.start.count l.s l.fn.start.at)
