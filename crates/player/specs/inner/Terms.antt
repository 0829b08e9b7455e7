-- What a place of the columns, or a partial by itself, adds to the sample y.
use Rattle.std.specs.Prelude.{cond, ℕ, ◌+◌, ◌*◌, List, get_or, eqb, Float}
use Rattle.std.specs.Float.{nan}
use Rattle.float.specs.Sqrt.{sqrt}
use Rattle.float.specs.F32.{◌⊗◌, quotient}
use Rattle.player.specs.inner.Columns.{added}
use Rattle.player.specs.Fade.{nyquist_fade}
use Rattle.player.specs.Phase.{advance_of, partial_freq, step_of}
use Rattle.player.specs.Sound.{add_single, blend_coeff, partial_row, add_noise_single, blend_power}
use Rattle.player.specs.declared.constants.Constants.{Constants}
use Rattle.player.specs.declared.noise.bands.BandColumns.{BandColumns}
use Rattle.player.specs.declared.tuning.NoiseTuning.{NoiseTuning}
use Rattle.player.specs.declared.tuning.Tuning.{Tuning}
use Rattle.player.specs.declared.pitch.entries.Pitch.{Pitch}

-- A single voice and a blend of k channels sound by one formula: a coefficient, a gain and the rest.
-- The gain: of a single voice gain 0; of a blend 1, since the gains are in its coefficients. A product with 1 is the float itself.
abbrev pub term_gain : ℕ → List Float → Float
term_gain blend gains = cond (eqb blend 0) (get_or gains 0 nan) (quotient 1 1)

-- the coefficient of a partial, and of a band, of which channel q's is `row q`
abbrev pub sample_coeff : ℕ → ℕ → (ℕ → Float) → List Float → Float
sample_coeff blend k row gains = cond (eqb blend 0) (row 0) (blend_coeff row gains k)

abbrev pub band_coeff : ℕ → ℕ → (ℕ → Float) → List Float → Float
band_coeff blend k row gains = cond (eqb blend 0) (row 0) (sqrt (blend_power row gains k))

-- partial i, where row q of the rows holds channel q's coefficients between the two sides
abbrev pub partial_added : Constants → Tuning → List Float → List Float → ℕ → Float → Float
partial_added x t gains sines i y =
    let coeff = sample_coeff x.blend x.k (λ q. get_or t.rows (q * 32 + i) nan) gains in
    added y coeff (coeff ⊗ t.mainlobe ⊗ get_or t.fades i nan ⊗ term_gain x.blend gains ⊗ get_or sines i nan)

-- live band l, in the same way
abbrev pub noise_added : Constants → NoiseTuning → List Float → BandColumns → ℕ → Float → Float
noise_added x t gains bands l y =
    add_noise_single y (band_coeff x.blend x.k (λ q. get_or t.rows (q * 32 + l) nan) gains) (term_gain x.blend gains) t.noise_gain
    (get_or bands.makeup l nan) (get_or bands.ys l nan)

-- partial i by itself, where p is what the frequency decides and phases are those before the sample
abbrev pub sample_added : Constants → Pitch → List Float → List Float → List Float → ℕ → Float → Float
sample_added x p partials gains phases i y =
    add_single y (sample_coeff x.blend x.k (λ q. partial_row partials p.s q i) gains) p.mainlobe
    (nyquist_fade (partial_freq (i + 1) p.f0 p.stretch) x.nyquist) (term_gain x.blend gains)
    (advance_of (get_or phases i nan) (step_of (i + 1) p.f0 p.stretch x.inv))
