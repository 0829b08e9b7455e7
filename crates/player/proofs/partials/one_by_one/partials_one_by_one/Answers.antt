-- `partials_one_by_one` meets its contract.
use Rattle.std.proofs.Common.{refl, sym, subst, arith, length}
use Rattle.std.specs.Prelude.{Float}
use Rattle.float.proofs.Finite.{shown}
use Rattle.float.specs.inner.Range.{Within}
use Rattle.player.specs.inner.Passes.{frequency_in, gains_in, partials_of}
use Rattle.player.proofs.SoundLaws.{entries-in, within, inverse-small}
use Rattle.player.proofs.PartialsPass.{PitchKept, pitch-of, sample-of-is, few-at-first, few-at-next, few-sounds, partials-out-first, partials-out-again, partials-out-full}
use Rattle.player.proofs.partials.one_by_one.partials_one_by_one.Goals as goal

pub loop-i-init : goal.loop-i-init
loop-i-init c =
    let a = c.args in
    let v = partials_of a.timbre a.phases.now in
    (partials-out-first v (frequency_in a.inputs) (gains_in a.inputs) a.out.now, few-at-first v (frequency_in a.inputs) c.requires.1)

pub pitch_kept-p-requires : goal.pitch_kept-p-requires
pitch_kept-p-requires c =
    let a = c.args in
    let f0 = c.frequency_at.result in
    let W = within a.inputs c.requires.3 c.loop-i.i f0 c.frequency_at.ensures in
    record {
      entries_in = rw c.of-entries.ensures ((entries-in a.timbre.set.now a.timbre.lists.now c.requires.0 c.requires.2, W), c.requires.0.stretches-ok);
      kept = λ p k q. rw c.of-entries.ensures (c.loop-i.invariant.1.pitched f0 p (shown _ c.frequency_at.type_inv) W k q);
    }

pub sample_of-requires : goal.sample_of-requires
sample_of-requires c =
    let a = c.args in
    let W = within a.inputs c.requires.3 c.loop-i.i c.frequency_at.result c.frequency_at.ensures in
    let N = c.requires.0 in
    let P = c.pitch_kept-p.ensures in
    record {
      table = rw c.of-x.ensures (c.table-wave.ensures, P.inside, N.sizes.2, N.sizes.1, c.loop-i.invariant.1.ok);
      within = rw c.of-x.ensures (subst (λ (z : Float). Within 20000 1 z) (sym P.at) W, P.small, inverse-small a.timbre.set.now a.timbre.lists.now N);
    }

pub loop-i-preserved : goal.loop-i-preserved
loop-i-preserved c =
    let a = c.args in
    let v = partials_of a.timbre a.phases.now in
    let fs = frequency_in a.inputs in
    let gs = gains_in a.inputs in
    let i = c.loop-i.i in
    let f0 = c.frequency_at.result in
    let ef = c.frequency_at.ensures in
    let F = shown _ c.frequency_at.type_inv in
    let W = within a.inputs c.requires.3 i f0 ef in
    let p = c.pitch_kept-p.result in
    let P : PitchKept v f0 p = rw c.of-entries.ensures at c.pitch_kept-p.ensures in
    let G = c.loop-i.invariant.1 in
    let O = pitch-of v p f0 P in
    let h = c.gains_for-gains.result in
    let s = sample-of-is v f0 p O h c.loop-i.phases c.sample_of.result (rw c.of-x.ensures at c.sample_of.ensures.value) in
    let y = few-sounds v f0 p O fs gs i h c.loop-i.phases c.sample_of.result ef (rw c.of-x.ensures at c.gains_for-gains.ensures) G.phases-are s in (
      partials-out-again v fs gs i a.out.now c.loop-i.out c.sample_of.result (omega arith) c.loop-i.invariant.0 y,
      few-at-next v fs i c.loop-i.phases _ c.loop-i.kept f0 p G c.requires.0 ef F W P (rw c.of-x.ensures at c.sample_of.ensures.phases_after),
    )

pub returns : goal.returns
returns c =
    let a = c.args in
    partials-out-full (partials_of a.timbre a.phases.now) (frequency_in a.inputs) (gains_in a.inputs)
    c.loop-i.i (length a.out.now) a.out.now c.loop-i.out c.loop-i.phases (omega arith) refl c.loop-i.invariant.0 c.loop-i.invariant.1.phases-are
