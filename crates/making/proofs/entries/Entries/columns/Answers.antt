use mathlib.Core.Path.{refl, ap, ◌∙◌}
use native.Mathlib.Omega.{arith}
use lib.Ieee.{of_bits, round}
use Rattle.table.specs.Table.{PitchEntry}
use Rattle.table.specs.View.{entry_at}
use Rattle.float.specs.F32.{quotient}
use Rattle.making.specs.Making.{f32, gain_of, mainlobe_key, noise_gain_key}
use Rattle.making.specs.inner.Views.{no_view}
use Rattle.voice.proofs.PadLaws.{pad-again-2}
use Rattle.making.proofs.entries.Entries.columns.Goals as goal

pub loop-i-init : goal.loop-i-init
unfolding of_bits round
loop-i-init c = record { pitches = refl; stretches = refl; mainlobes = refl; noises = refl }

pub loop-i-preserved : goal.loop-i-preserved
loop-i-preserved c =
    let s = c.args.self.now.image.now in
    let views = c.args.self.now.views.now in
    let l = c.loop-i in
    let few = c.args.self.now.few in
    record {
      pitches = rw c.from_bits.ensures (pad-again-2 (entry_at s) (λ (e : PitchEntry). f32 e.f0_hz) (quotient 0 1) no_view 16 l.i views l.pitches (omega arith) (omega arith) l.invariant.pitches);
      stretches = rw c.from_bits-in-loop-i.ensures (pad-again-2 (entry_at s) (λ (e : PitchEntry). f32 e.stretch) (quotient 0 1) no_view 16 l.i views l.stretches (omega arith) (omega arith) l.invariant.stretches);
      mainlobes = rw (c.gain_of.ensures ∙ ap (gain_of mainlobe_key) c.entry-entry.ensures) (pad-again-2 (entry_at s) (gain_of mainlobe_key) (quotient 0 1) no_view 16 l.i views l.mainlobes (omega arith) (omega arith) l.invariant.mainlobes);
      noises = rw (c.gain_of-in-loop-i.ensures ∙ ap (gain_of noise_gain_key) c.entry-entry.ensures) (pad-again-2 (entry_at s) (gain_of noise_gain_key) (quotient 0 1) no_view 16 l.i views l.noises (omega arith) (omega arith) l.invariant.noises);
    }
