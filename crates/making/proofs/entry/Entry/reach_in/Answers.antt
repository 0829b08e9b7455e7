use Rattle.std.proofs.Common.{ℕ, ap, sym, ◌∙◌, unwrap_or, rules, tests, arith}
use Rattle.std.specs.List.{range_with_len}
use Rattle.std.proofs.lemmas.Iterator.{YieldsList-from_range, YieldsList-from_map}
use Rattle.std.proofs.lemmas.Iterator.Consumers.{reduce_from_yields_List}
use Rattle.std.proofs.lemmas.List.Folds.{max_of_map}
use Rattle.table.specs.View.{entry_at}
use Rattle.making.specs.Making.{partial_reach}
use Rattle.making.proofs.CoeffLaws.{partials-are}
use Rattle.making.proofs.RangeLaws.{reach-below}
use Rattle.making.proofs.entry.Entry.reach_in.Goals as goal

pub returns : goal.returns
returns c =
    let s = c.args.self.now.image.now in
    let v = c.args.self.now.view in
    let h = λ (q : ℕ). partial_reach (entry_at s v) q v.m_partials in
    c.unwrap_or.ensures
    ∙ ap (λ o. unwrap_or o 0) (reduce_from_yields_List _ c.map.result _ c.max.ensures.ran (YieldsList-from_map _ h (YieldsList-from_range 0 c.args.n c.args.n c.map.ensures.source (omega arith)) c.map.ensures.closure (λ x b q k. search (rules, tests))))
    ∙ max_of_map h (range_with_len 0 c.args.n)
    ∙ reach-below (entry_at s v) v.m_partials (sym (partials-are s v)) c.args.n
