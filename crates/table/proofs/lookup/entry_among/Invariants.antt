use mathlib.Core.Path.{◌≡◌}
use Prim.Native.Nat.{◌≤◌, ◌-◌}
use Rattle.wire.specs.Parse.{standing}
use Rattle.table.specs.Image.{entry}
use Rattle.table.specs.inner.Entry.{entry_list}
use Rattle.table.specs.Lookup.{view_from}
use Rattle.table.proofs.lookup.entry_among.Given as goal

abbrev pub invariant-loop-i : goal.invariant-loop-i
invariant-loop-i l = (l.i ≤ l.index) × (view_from l.d.at (standing entry l.i (l.fn.start.count - l.i) l.s l.d.at) (l.index - l.i) ≡ view_from l.fn.start.at (entry_list l.fn.start.count l.s l.fn.start.at) l.index)
