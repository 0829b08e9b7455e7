-- `block_of` meets its contract.
use Rattle.std.proofs.Common.{refl, arith, rules, ◌+◌, ◌-◌, ◌*◌}
use Rattle.voice.specs.Input.{call_of}
use Rattle.player.specs.inner.Passes.{toned}
use Rattle.player.proofs.BlockLaws.{behind-none, behind-again, block-is-played}
use Rattle.player.proofs.block.block_of.Goals as goal

pub loop-ch-init : goal.loop-ch-init
loop-ch-init c =
    let a = c.args in
    behind-none (toned a.timbre a.state.now) (call_of a.shape a.inputs) c.requires.2 a.out.now c.requires.3

pub loop-ch-preserved : goal.loop-ch-preserved
loop-ch-preserved c =
    let a = c.args in
    behind-again (toned a.timbre a.state.now) (call_of a.shape a.inputs) c.requires.2 a.out.now c.requires.3 c.loop-ch.ch
    (c.loop-ch.ch * a.shape.samples + a.shape.samples - c.loop-ch.ch * a.shape.samples) c.loop-ch.out _ _ _ (omega arith) (omega arith) (search rules) c.loop-ch.invariant c.channel_at.ensures refl

pub returns : goal.returns
returns c =
    let a = c.args in
    block-is-played (toned a.timbre a.state.now) (call_of a.shape a.inputs) c.requires.2 a.out.now c.requires.3 c.loop-ch.ch c.loop-ch.out _ _ (omega arith) c.loop-ch.invariant
    c.channel_at-2.ensures
