-- `noise_pass` meets its contract.
use Rattle.std.proofs.Common.{◌≡◌, ◌∙◌, refl, sym, arith, length}
use Rattle.float.proofs.Finite.{shown}
use Rattle.player.specs.Bands.{ticking_set}
use Rattle.player.specs.inner.Passes.{frequency_in, gains_in, noise_of}
use Rattle.player.specs.inner.Tuning.{constants_at, entries_at}
use Rattle.player.proofs.SoundLaws.{entries-in, within}
use Rattle.player.proofs.PartialLaws.{NoiseTunedTo}
use Rattle.player.proofs.NoisePass.{live-fits, ticking-constants, ticking-entries, bands-at-first, bands-at-next, bands-at-last, noisy-sounds, noise-out-first, noise-out-again, noise-out-full}
use Rattle.player.proofs.noise.pass.noise_pass.Goals as goal

pub loop-i-init : goal.loop-i-init
loop-i-init c =
    let a = c.args in
    let v = noise_of a.timbre a.memories.now a.first in
    let L = c.requires.2 in (
      noise-out-first v (frequency_in a.inputs) (gains_in a.inputs) a.out.now,
      bands-at-first v c.requires.1 a.live.now L.count L.bands c.told-memories c.gather.new.self c.default-tuning.result c.gather.ensures c.default-tuning.ensures.0,
    )

pub tune-requires : goal.tune-requires
tune-requires c =
    let a = c.args in
    let set = a.timbre.set.now in
    let lists = a.timbre.lists.now in
    let f0 = c.frequency_at.result in
    let W = within a.inputs c.requires.4 c.loop-i.i f0 c.frequency_at.ensures in
    let N = c.requires.0 in
    let X : c.of-x.result ≡ constants_at (ticking_set set) = c.of-x.ensures ∙ sym (ticking-constants set) in
    let E : c.of-entries.result ≡ entries_at (ticking_set set) lists = c.of-entries.ensures ∙ sym (ticking-entries set lists) in
    record {
      entries_in = (rw c.of-entries.ensures (entries-in set lists N c.requires.3), W);
      counts_in = (rw c.of-x.ensures N.sizes.2, live-fits set a.live.now c.requires.2 c.requires.1);
      kept = λ was k q. rw (X, E) (c.loop-i.invariant.1.tuned f0 was (shown _ c.frequency_at.type_inv) W k q);
    }

pub loop-i-preserved : goal.loop-i-preserved
loop-i-preserved c =
    let a = c.args in
    let set = a.timbre.set.now in
    let lists = a.timbre.lists.now in
    let v = noise_of a.timbre a.memories.now a.first in
    let fs = frequency_in a.inputs in
    let gs = gains_in a.inputs in
    let i = c.loop-i.i in
    let L = c.requires.2 in
    let f0 = c.frequency_at.result in
    let ef = c.frequency_at.ensures in
    let F = shown _ c.frequency_at.type_inv in
    let W = within a.inputs c.requires.4 i f0 ef in
    let t = c.tune.new.self in
    let X : c.of-x.result ≡ constants_at (ticking_set set) = c.of-x.ensures ∙ sym (ticking-constants set) in
    let E : c.of-entries.result ≡ entries_at (ticking_set set) lists = c.of-entries.ensures ∙ sym (ticking-entries set lists) in
    let U : NoiseTunedTo v a.live.now f0 t = rw (X, E) at c.tune.ensures in
    let G = c.loop-i.invariant.1 in
    let y = noisy-sounds v c.requires.1 a.live.now L.count L.bands c.told-memories fs gs i c.loop-i.bands c.loop-i.rng c.loop-i.tuning G f0 ef F W t U c.noise_step-next.result c.noise_step-next.ensures c.tick.new.self c.tick.ensures _ _ c.noise_sum.result c.gains_at-gains.ensures (rw X at c.noise_sum.ensures) in (
      noise-out-again v fs gs i a.out.now c.loop-i.out c.noise_sum.result (omega arith) c.loop-i.invariant.0 y,
      bands-at-next v c.requires.1 a.live.now L.count L.bands c.told-memories fs gs i c.loop-i.bands c.loop-i.rng c.loop-i.tuning G f0 ef F W t U c.noise_step-next.result c.noise_step-next.ensures c.tick.new.self c.tick.ensures,
    )

pub returns : goal.returns
returns c =
    let a = c.args in
    let v = noise_of a.timbre a.memories.now a.first in
    let L = c.requires.2 in
    let n = length a.out.now in
    let l = bands-at-last v c.requires.1 a.live.now L.count L.bands c.told-memories c.loop-i.i n c.loop-i.bands c.loop-i.rng c.loop-i.tuning _ (omega arith) c.loop-i.invariant.1 c.scatter.ensures in
    record { steps_on = l.0; rings = l.1; written = noise-out-full v (frequency_in a.inputs) (gains_in a.inputs) c.loop-i.i n a.out.now c.loop-i.out (omega arith) refl c.loop-i.invariant.0 }
