-- `phases_ok` meets its contract.
use Rattle.std.proofs.Common.{◌∙◌, arith}
use lib.Ieee.{nan}
use Rattle.voice.specs.Voice.{phase_ok, phases_ok}
use Rattle.voice.proofs.Loops.{every-front}
use Rattle.voice.proofs.rules.phases_ok.Goals as goal

pub returns : goal.returns
unfolding phases_ok
returns c =
    c.all_of.ensures phase_ok nan (λ i r l h. h) ∙ every-front nan c.args.phases.now c.args.m (omega (arith, c.told-phases)) phase_ok
