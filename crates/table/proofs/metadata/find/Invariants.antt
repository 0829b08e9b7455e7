use Prim.Native.Nat.{◌-◌}
use mathlib.Core.Path.{◌≡◌}
use mathlib.Core.Bool.{true}
use Rattle.wire.specs.Parse.{many, standing}
use Rattle.table.specs.Table.{metadata_value}
use Rattle.table.specs.Image.{pair}
use Rattle.table.specs.View.{pair_list}
use Rattle.table.specs.inner.Answers.{reads}
use Rattle.table.proofs.metadata.find.Given as goal

abbrev pub invariant-loop-i : goal.invariant-loop-i
invariant-loop-i l =
    (metadata_value l.key (standing (λ i'. pair) l.i (l.fn.v.pairs - l.i) l.s l.d.at) ≡ metadata_value l.key (pair_list l.fn.v.pairs l.s l.fn.v.pairs_at))
    × (l.known ≡ true → reads (many (λ i'. pair) l.i (l.fn.v.pairs - l.i) l.s l.d.at) ≡ true)
