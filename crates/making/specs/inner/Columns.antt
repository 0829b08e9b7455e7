-- Arrays as the code holds them on the way to a voice. Cited by private functions only.
use Rattle.std.specs.Prelude.{ℕ, List, ◌++◌, map, replicate, Float}
use Rattle.table.specs.Table.{PitchEntry}
use Rattle.float.specs.F32.{quotient}
use Rattle.voice.specs.Lists.{padded}
use Rattle.voice.specs.Limits.{max_entries}
use Rattle.making.specs.Making.{f32, gain_of, mainlobe_key, noise_gain_key}
use Rattle.making.specs.declared.fill.Columns.{Columns}

-- the places of lists 4 to 9: the bands' coefficients and their compensations
abbrev pub band_places : ℕ
band_places = 96

-- what each sorted entry has one of
abbrev pub columns_of : List PitchEntry → Columns
columns_of vs = record {
  f0_hz = padded max_entries (quotient 0 1) (map (λ e. f32 e.f0_hz) vs);
  stretch = padded max_entries (quotient 0 1) (map (λ e. f32 e.stretch) vs);
  mainlobe_gain = padded max_entries (quotient 0 1) (map (gain_of mainlobe_key) vs);
  noise_gain = padded max_entries (quotient 0 1) (map (gain_of noise_gain_key) vs);
}

-- these and the centres laid one after the other, as a voice has them, with no band worked out: 0 for the coefficients and compensations
abbrev pub lists_from : Columns → List Float → List Float
lists_from cols centres =
    cols.f0_hz
    ++ (cols.stretch ++ (cols.mainlobe_gain ++ (cols.noise_gain ++ (replicate band_places (quotient 0 1) ++ centres))))
