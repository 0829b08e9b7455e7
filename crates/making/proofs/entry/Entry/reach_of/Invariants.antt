use mathlib.Core.Path.{◌≡◌}
use Rattle.making.specs.inner.Entry.{entry_in}
use Rattle.making.specs.Making.{partial_reach}
use Rattle.making.proofs.entry.Entry.reach_of.Given as goal

-- none from i on is other than 0
abbrev pub invariant-loop-i : goal.invariant-loop-i
invariant-loop-i l = partial_reach (entry_in l.self) l.c l.i ≡ partial_reach (entry_in l.self) l.c l.self.view.m_partials
