use mathlib.Core.Path.{◌≡◌}
use Rattle.making.specs.inner.Live.{live_of}
use Rattle.making.specs.inner.Views.{entries_in}
use Rattle.making.specs.Making.{live_bands}
use Rattle.making.proofs.entries.Entries.live_bands.Given as goal

abbrev pub invariant-loop-b : goal.invariant-loop-b
invariant-loop-b l = l.live ≡ live_of (live_bands l.sounding.kind (entries_in l.self) l.b)
