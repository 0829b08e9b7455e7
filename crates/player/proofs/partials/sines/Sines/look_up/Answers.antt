-- `look_up` meets its contract.
use Rattle.player.proofs.Waves.{sines-filled}
use Rattle.player.proofs.partials.sines.Sines.look_up.Goals as goal

pub returns : goal.returns
returns c =
    sines-filled _ _ _ _ _ _ c.args.m c.requires.2 c.places.ensures.0 c.places.ensures.2 c.lines.ensures.0 c.lines.ensures.1 c.values.ensures
