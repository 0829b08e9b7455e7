use Prim.Native.Nat.{ℕ}
use mathlib.Core.Path.{refl, ◌∙◌}
use native.Mathlib.Omega.{arith}
use lib.Ieee.{of_bits, round}
use borrow.Author.Rules.{rules}
use borrow.Author.Tests.{tests}
use Rattle.std.proofs.lemmas.Iterator.{YieldsList-from_range}
use Rattle.std.proofs.lemmas.Iterator.Search.{any_from_yields_List}
use Rattle.table.specs.View.{entry_at}
use Rattle.making.specs.Making.{is_nonzero, noise_coeff}
use Rattle.making.proofs.RangeLaws.{live-below}
use Rattle.making.proofs.entry.Entry.live_in.Goals as goal

pub returns : goal.returns
unfolding of_bits round
returns c =
    let e = entry_at c.args.self.now.image.now c.args.self.now.view in
    any_from_yields_List (λ (q : ℕ). is_nonzero (noise_coeff e q c.args.b)) _ _ c.any.result c.any.ensures.ran (YieldsList-from_range 0 c.args.n c.args.n refl (omega arith)) (λ x b q k. search (rules, tests))
    ∙ live-below e c.args.b c.args.n
