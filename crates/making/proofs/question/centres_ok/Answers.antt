use mathlib.Core.Path.{◌∙◌}
use lib.Ieee.Scale.{finite}
use borrow.Author.Rules.{rules}
use borrow.Author.Tests.{tests, eq-eqb}
use Rattle.std.proofs.lemmas.Iterator.{YieldsList-from_slice}
use Rattle.std.proofs.lemmas.Iterator.Search.{all_from_yields_List}
use Rattle.making.proofs.ViewLaws.{all-listed}
use Rattle.making.proofs.question.centres_ok.Goals as goal

pub returns-then-centres-bands : goal.returns-then-centres-bands
returns-then-centres-bands c =
    let centres = c.args.centres.now in
    rw (eq-eqb _ _ c.if-centres-bands.true) (all_from_yields_List finite _ _ c.all.result c.all.ensures.ran (YieldsList-from_slice centres (cc)) (λ x b q k. search (rules, tests)) ∙ all-listed finite centres)
