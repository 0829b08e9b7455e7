-- `centres_finite` meets its contract.
use Rattle.std.proofs.Common.{◌∙◌, arith, rules}
use lib.Ieee.{nan}
use lib.Ieee.Scale.{finite}
use Rattle.voice.specs.Voice.{centres_finite}
use Rattle.voice.proofs.Loops.{every-front}
use Rattle.voice.proofs.rules.centres_finite.Goals as goal

pub returns : goal.returns
unfolding centres_finite
returns c =
    c.all_of.ensures finite nan (λ i r l h. search rules)
    ∙ every-front nan c.short_list.result.now c.args.j (omega (arith, c.short_list.ensures.long)) finite
    ∙ rw c.short_list.ensures.list
