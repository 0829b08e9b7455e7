use Rattle.std.proofs.Common.{◌-◌}
use Rattle.tone.proofs.playing.Run.fill.Given as goal

abbrev pub decreases-loop-played : goal.decreases-loop-played
decreases-loop-played g l = l.to - l.played
