use mathlib.Core.Path.{◌∙◌}
use borrow.Author.Rules.{rules}
use borrow.Author.Tests.{tests}
use Rattle.std.proofs.lemmas.Iterator.{YieldsList-from_slice}
use Rattle.std.proofs.lemmas.Iterator.Search.{any_from_yields_List}
use Rattle.table.specs.declared.entry.EntryView.{EntryView}
use Rattle.table.specs.Table.{PitchEntry}
use Rattle.table.specs.View.{entry_at}
use Rattle.making.specs.Making.{live_in}
use Rattle.making.proofs.ViewLaws.{any-viewed}
use Rattle.making.proofs.entries.Entries.live_among.Goals as goal

pub returns : goal.returns
returns c =
    let s = c.args.self.now.image.now in
    let views = c.args.self.now.views.now in
    any_from_yields_List (λ (v : EntryView). live_in (entry_at s v) c.args.b c.args.n) _ _ c.any.result c.any.ensures.ran (YieldsList-from_slice views (cc)) (λ x b q k. search (rules, tests))
    ∙ any-viewed s (λ (e : PitchEntry). live_in e c.args.b c.args.n) views
