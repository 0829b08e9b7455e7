use mathlib.Core.Path.{◌∙◌}
use borrow.Author.Rules.{rules}
use borrow.Author.Tests.{tests}
use Rattle.std.proofs.lemmas.Iterator.{YieldsList-from_slice}
use Rattle.std.proofs.lemmas.Iterator.Search.{all_from_yields_List}
use Rattle.table.specs.declared.entry.EntryView.{EntryView}
use Rattle.table.specs.View.{entry_at}
use Rattle.making.specs.Making.{sizes_ok}
use Rattle.making.proofs.ViewLaws.{all-viewed}
use Rattle.making.proofs.entries.Entries.sizes_ok.Goals as goal

pub returns : goal.returns
returns c =
    let s = c.args.self.now.image.now in
    let views = c.args.self.now.views.now in
    all_from_yields_List (λ (v : EntryView). sizes_ok (entry_at s v)) _ _ c.all.result c.all.ensures.ran (YieldsList-from_slice views (cc)) (λ x b q k. search (rules, tests))
    ∙ all-viewed s sizes_ok views
