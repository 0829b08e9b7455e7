use mathlib.Core.Path.{ap, ◌∙◌}
use mathlib.Core.Bool.{not}
use borrow.Author.Rules.{rules}
use borrow.Author.Tests.{tests}
use Rattle.std.proofs.lemmas.Iterator.{YieldsList-from_slice}
use Rattle.std.proofs.lemmas.Iterator.Adapters.{position_from-zero}
use Rattle.std.proofs.lemmas.Iterator.Search.{position_from_yields_List}
use Rattle.table.specs.declared.entry.EntryView.{EntryView}
use Rattle.table.specs.View.{entry_at}
use Rattle.making.specs.Making.{values_ok}
use Rattle.making.specs.inner.Views.{values_then}
use Rattle.making.proofs.ViewLaws.{bad-viewed}
use Rattle.making.proofs.entries.Entries.first_bad.Goals as goal

pub returns : goal.returns
returns c =
    let s = c.args.self.now.image.now in
    let views = c.args.self.now.views.now in
    let bad = λ (v : EntryView). not (values_ok (entry_at s v)) in
    let e = position_from_yields_List bad _ _ c.position.result c.position.ensures.ran (YieldsList-from_slice views (cc)) (λ x b q k. search (rules, tests)) in
    λ rest. ap (λ a. values_then a rest) (e ∙ position_from-zero bad views) ∙ bad-viewed s 0 views rest
