use mathlib.Core.Path.{◌≡◌}
use mathlib.Core.List.{map}
use lib.ListN.{take}
use Rattle.float.specs.F32.{quotient}
use Rattle.voice.specs.Lists.{padded}
use Rattle.making.specs.Making.{f32, gain_of, mainlobe_key, noise_gain_key}
use Rattle.making.specs.inner.Views.{viewed}
use Rattle.making.proofs.entries.Entries.columns.Given as goal

-- the columns of the entries so far
abbrev pub invariant-loop-i : goal.invariant-loop-i
invariant-loop-i l = record {
  pitches : l.pitches ≡ padded 16 (quotient 0 1) (map (λ e. f32 e.f0_hz) (viewed l.self.image.now (take l.i l.self.views.now)));
  stretches : l.stretches ≡ padded 16 (quotient 0 1) (map (λ e. f32 e.stretch) (viewed l.self.image.now (take l.i l.self.views.now)));
  mainlobes : l.mainlobes ≡ padded 16 (quotient 0 1) (map (gain_of mainlobe_key) (viewed l.self.image.now (take l.i l.self.views.now)));
  noises : l.noises ≡ padded 16 (quotient 0 1) (map (gain_of noise_gain_key) (viewed l.self.image.now (take l.i l.self.views.now)));
}
