use Prim.Native.Nat.{ℕ}
use mathlib.Core.Path.{refl, sym, ap, ◌∙◌}
use native.Mathlib.Omega.{arith}
use lib.ListN.{get_or}
use lib.Ieee.Scale.{finite}
use borrow.Author.Rules.{rules}
use borrow.Author.Tests.{tests}
use Rattle.std.specs.List.{list_all}
use Rattle.std.proofs.lemmas.Iterator.{YieldsList-from_range, YieldsList-from_map}
use Rattle.std.proofs.lemmas.Iterator.Search.{all_from_yields_List}
use Rattle.std.proofs.lemmas.List.FromFn.{fill_by_all}
use Rattle.table.specs.View.{entry_at}
use Rattle.table.proofs.WordLaws.{length-words}
use Rattle.making.specs.Making.{f32}
use Rattle.making.proofs.ViewLaws.{all-listed}
use Rattle.making.proofs.entry.Entry.coefficients_ok.Goals as goal

pub returns : goal.returns
returns c =
    let s = c.args.self.now.image.now in
    let v = c.args.self.now.view in
    let n = v.coefficients in
    let l = (entry_at s v).coefficients in
    let at = λ (x : ℕ). get_or l x 0 in
    let f = λ (b : ℕ). finite (f32 b) in
    all_from_yields_List f _ _ c.all.result c.all.ensures.ran (YieldsList-from_map _ at (YieldsList-from_range 0 n n c.map.ensures.source (omega arith)) c.map.ensures.closure (λ x b q k. search (rules, tests))) (λ x b q k. search (rules, tests))
    ∙ ap (list_all f) (sym (fill_by_all at l n 0 (length-words s v.coefficients_at n) (λ k h. refl)))
    ∙ all-listed f l
