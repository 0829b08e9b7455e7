-- `pitch_at` meets its contract.
use lib.ListN.{get_or}
use lib.Ieee.{nan}
use Rattle.voice.specs.Voice.{stretch_ok}
use Rattle.voice.proofs.Loops.{every-at}
use Rattle.player.proofs.SoundLaws.{sides-wide}
use Rattle.player.proofs.pitch.entries.Entries.pitch_at.Goals as goal

pub stretch_between-requires : goal.stretch_between-requires
stretch_between-requires c =
    let e = c.args.self.now in
    let E = c.requires.0.0 in
    let S = c.sides_at-s.ensures.inside in
    let ok = every-at (λ i. stretch_ok (get_or e.stretch i nan)) e.count in
    (sides-wide e.count _ E.most S.0, ok _ c.requires.1 S.0.low, ok _ c.requires.1 S.0.high, S.1)
