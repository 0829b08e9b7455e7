-- The pieces between blanks in turn.
use Rattle.std.proofs.Common.{Ok, rules, tests, refl, ◌∙◌}
use Rattle.std.proofs.lemmas.Iterator.Splits.{YieldsList-from_slice_split}
use Rattle.console.specs.declared.plans.Line.{Line}
use Rattle.console.specs.Pieces.{pieces_of}
use Rattle.console.specs.Plans.{is_blank, after_piece, line_of}
use Rattle.console.proofs.PiecesLaws.{pieces_folded}
use Rattle.console.proofs.PlansLaws.{words_folded}
use Rattle.console.proofs.plans.line_of.Goals as goal

pub returns : goal.returns
unfolding line_of
returns c =
    pieces_folded _ _ after_piece (λ e y. refl) (λ b x w h k. search rules) c.try_fold.ensures.ran
    (YieldsList-from_slice_split _ is_blank c.args.line.now (search rules) (search rules) (search rules) (λ x b q k. search (rules, tests)))
    ∙ words_folded (Ok Line.Empty) (pieces_of is_blank c.args.line.now)
