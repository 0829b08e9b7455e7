use Prim.Native.Nat.{◌-◌}
use mathlib.Core.Path.{◌≡◌}
use lib.ListN.{length}
use Rattle.wire.specs.Parse.{many, standing}
use Rattle.table.specs.declared.span.Baseline.{Baseline}
use Rattle.table.specs.Image.{entry, entries}
use Rattle.table.specs.inner.Entry.{entry_list}
use Rattle.table.specs.inner.Baseline.{answer_from}
use Rattle.table.specs.inner.Views.{put_views}
use Rattle.table.proofs.entries.entries_at.Given as goal

abbrev pub invariant-loop-i : goal.invariant-loop-i
invariant-loop-i g l =
    (answer_from l.j l.i (many entry l.i (l.fn.start.count - l.i) l.s l.d.at) ≡ answer_from Baseline.Start 0 (entries l.fn.start.count l.s l.fn.start.at)) × (length l.views ≡ g.row.N)
    × (put_views l.views l.i l.d.at (standing entry l.i (l.fn.start.count - l.i) l.s l.d.at) ≡ put_views l.initial.views 0 l.fn.start.at (entry_list l.fn.start.count l.s l.fn.start.at))
