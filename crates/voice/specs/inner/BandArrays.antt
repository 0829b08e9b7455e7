-- The bands of a voice as the code holds them. Cited by private functions only.
use Rattle.std.specs.Prelude.{List, Float}
use Rattle.voice.specs.Bands.{init_coeffs, init_compensations}
use Rattle.voice.specs.declared.bands.Bands.{Bands}

-- what each band has one of
abbrev pub band_arrays : List Float → Float → Bands
band_arrays centres rate = record { coeffs = init_coeffs centres rate; compensation = init_compensations centres rate }
