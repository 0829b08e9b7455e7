-- `partials_in_columns` meets its contract.
use Rattle.std.proofs.Common.{refl, arith, length}
use Rattle.float.proofs.Finite.{shown}
use Rattle.player.specs.inner.Passes.{frequency_in, gains_in, partials_of}
use Rattle.player.proofs.SoundLaws.{entries-in, within, inverse-small}
use Rattle.player.proofs.PartialLaws.{TunedTo, tuned-voice, all-phases}
use Rattle.player.proofs.PartialsPass.{partials-at-first, partials-at-next, sounds, partials-out-first, partials-out-again, partials-out-full}
use Rattle.player.proofs.partials.in_columns.partials_in_columns.Goals as goal

pub loop-i-init : goal.loop-i-init
loop-i-init c =
    let a = c.args in
    let v = partials_of a.timbre a.phases.now in (
      partials-out-first v (frequency_in a.inputs) (gains_in a.inputs) a.out.now,
      partials-at-first v (frequency_in a.inputs) (gains_in a.inputs) c.default-tuning.result c.requires.1 c.default-tuning.ensures.0,
    )

pub tune-requires : goal.tune-requires
tune-requires c =
    let a = c.args in
    let set = a.timbre.set.now in
    let lists = a.timbre.lists.now in
    let f0 = c.frequency_at.result in
    let W = within a.inputs c.requires.3 c.loop-i.i f0 c.frequency_at.ensures in
    let N = c.requires.0 in
    record {
      entries_in = rw c.of-entries.ensures ((entries-in set lists N c.requires.2, W), N.stretches-ok);
      counts_in = rw c.of-x.ensures (N.sizes.1, N.sizes.2, inverse-small set lists N);
      kept = λ was k q. rw (c.of-x.ensures, c.of-entries.ensures) (c.loop-i.invariant.1.tuned f0 was (shown _ c.frequency_at.type_inv) W k q);
    }

pub look_up-requires : goal.look_up-requires
look_up-requires c =
    let a = c.args in
    let v = partials_of a.timbre a.phases.now in
    let f0 = c.frequency_at.result in
    let t = c.tune.new.self in
    let U : TunedTo v f0 t = rw (c.of-x.ensures, c.of-entries.ensures) at c.tune.ensures in (
      c.waves-wave.ensures,
      rw c.of-x.ensures c.requires.0.sizes.1,
      rw c.of-x.ensures (all-phases v f0 t (tuned-voice v t f0 U) c.loop-i.phases _ c.loop-i.invariant.1.ok (rw c.of-x.ensures at c.move_phases.ensures)),
    )

pub loop-i-preserved : goal.loop-i-preserved
loop-i-preserved c =
    let a = c.args in
    let v = partials_of a.timbre a.phases.now in
    let fs = frequency_in a.inputs in
    let gs = gains_in a.inputs in
    let i = c.loop-i.i in
    let f0 = c.frequency_at.result in
    let ef = c.frequency_at.ensures in
    let F = shown _ c.frequency_at.type_inv in
    let W = within a.inputs c.requires.3 i f0 ef in
    let t = c.tune.new.self in
    let U : TunedTo v f0 t = rw (c.of-x.ensures, c.of-entries.ensures) at c.tune.ensures in
    let Q = rw c.of-x.ensures at c.move_phases.ensures in
    let G = c.loop-i.invariant.1 in
    let y = sounds v fs gs i c.loop-i.phases c.loop-i.tuning G f0 ef F W t U _ Q _ _ c.partial_sum.result c.gains_at-gains.ensures (rw c.of-x.ensures at c.look_up.ensures) (rw c.of-x.ensures at c.partial_sum.ensures) in (
      partials-out-again v fs gs i a.out.now c.loop-i.out c.partial_sum.result (omega arith) c.loop-i.invariant.0 y,
      partials-at-next v fs gs i c.loop-i.phases c.loop-i.tuning G f0 ef F W t U _ Q,
    )

pub returns : goal.returns
returns c =
    let a = c.args in
    partials-out-full (partials_of a.timbre a.phases.now) (frequency_in a.inputs) (gains_in a.inputs)
    c.loop-i.i (length a.out.now) a.out.now c.loop-i.out c.loop-i.phases (omega arith) refl c.loop-i.invariant.0 c.loop-i.invariant.1.phases-are
