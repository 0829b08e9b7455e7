use Rattle.std.proofs.Common.{ap, ◌∙◌, unwrap_or, rules, tests}
use Rattle.std.proofs.lemmas.Iterator.{YieldsList-from_slice, YieldsList-from_map}
use Rattle.std.proofs.lemmas.Iterator.Consumers.{reduce_from_yields_List}
use Rattle.std.proofs.lemmas.List.Folds.{max_of_map}
use Rattle.table.specs.declared.entry.EntryView.{EntryView}
use Rattle.table.specs.View.{entry_at}
use Rattle.making.proofs.ViewLaws.{most-viewed}
use Rattle.making.proofs.entries.Entries.most.Goals as goal

pub returns : goal.returns
returns g c = λ p counts.
    let s = c.args.self.now.image.now in
    let views = c.args.self.now.views.now in
    let h = λ (v : EntryView). p (entry_at s v) in
    c.unwrap_or.ensures
    ∙ ap (λ o. unwrap_or o 0) (reduce_from_yields_List _ c.map.result _ c.max.ensures.ran (YieldsList-from_map _ h (YieldsList-from_slice views (cc)) c.map.ensures.closure (λ x b q k. (search (rules, tests), counts x.now b (search (rules, tests))))))
    ∙ max_of_map h views
    ∙ most-viewed s p views
