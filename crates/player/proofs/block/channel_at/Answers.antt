-- `channel_at` meets its contract.
use Rattle.std.proofs.Common.{sym, subst, List}
use Rattle.std.specs.Prelude.{Float}
use Rattle.voice.specs.Input.{call_of}
use Rattle.player.specs.inner.Passes.{FrequenciesFit, toned}
use Rattle.player.proofs.SoundLaws.{frequencies-fit}
use Rattle.player.proofs.ChannelLaws.{channel-of-call}
use Rattle.player.proofs.block.channel_at.Goals as goal

pub channel_of-requires : goal.channel_of-requires
channel_of-requires c =
    let a = c.args in (
      c.requires.0,
      subst (λ (l : List Float). FrequenciesFit l) (sym c.parts_of.ensures.freq) (frequencies-fit a.shape.freq a.shape.samples a.ch a.inputs.freq.now c.requires.1.frequencies),
    )

pub returns : goal.returns
returns c =
    let a = c.args in
    channel-of-call (toned a.timbre a.state.now) (call_of a.shape a.inputs) a.ch c.parts_of.result _ _ _ c.parts_of.ensures c.requires.2 c.channel_of.ensures
