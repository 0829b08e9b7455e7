-- `play` meets its contract.
use Rattle.std.proofs.Common.{sym, refl, length, rules}
use Rattle.voice.specs.Input.{call_of}
use Rattle.voice.specs.Question.{play_question, ask}
use Rattle.voice.proofs.QuestionLaws.{play-accepted, block-is}
use Rattle.player.specs.Playing.{played, played_out}
use Rattle.player.proofs.PlayLaws.{play_done}
use Rattle.player.specs.Bands.{ticking}
use Rattle.player.proofs.BandLaws.{ticking-rules}
use Rattle.player.proofs.SoundLaws.{voice-fits}
use Rattle.player.proofs.playing.play.Goals as goal

pub block_of-requires : goal.block_of-requires
unfolding play_question
block_of-requires c =
    let a = c.args in
    let v = a.voice.now in
    let h = play-accepted v (call_of a.shape a.inputs) (length a.out.now) (sym c.in_ok-play_question.ensures) in
    let k = block-is a.shape.samples a.shape.channels (length a.out.now) h.1.block in
    (voice-fits (ticking v) (ticking-rules v h.0), record { inputs = h.1.inputs; frequencies = h.1.frequencies }, (k.0, k.1, k.2), k.3)

pub returns-in_err-play_question : goal.returns-in_err-play_question
unfolding play_question ask played played_out
returns-in_err-play_question c = search rules

pub returns : goal.returns
unfolding play_question
returns c =
    let a = c.args in
    play_done a.voice.now (call_of a.shape a.inputs) a.out.now _ _ (sym c.in_ok-play_question.ensures) refl c.block_of.ensures
