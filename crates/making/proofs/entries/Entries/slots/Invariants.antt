use mathlib.Core.Path.{◌≡◌}
use mathlib.Core.List.{◌++◌}
use lib.ListN.{drop}
use Rattle.voice.specs.Lists.{up_to}
use Rattle.making.specs.Making.{coeff_place}
use Rattle.making.specs.inner.Views.{entries_in}
use Rattle.making.proofs.entries.Entries.slots.Given as goal

-- the places so far are filled, those from x on are as they were
abbrev pub invariant-loop-x : goal.invariant-loop-x
invariant-loop-x g l = l.out ≡ up_to (coeff_place g.R.Row.coeff g.R.Row.WIDTH l.sounding.kind l.sounding.channels (entries_in l.self)) l.x ++ drop l.x l.initial.out
