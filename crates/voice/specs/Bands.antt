-- What `init` gives a voice: the coefficients and the compensation of each of its bands, for its own centres at a sample rate. A making and
-- a retune both take them from here.
use Rattle.std.specs.Prelude.{ℕ, ◌*◌, List, [], ◌∷◌, ◌++◌, map, get_or, take, drop, Float}
use Rattle.float.specs.F32.{quotient}
use Rattle.filters.specs.Band.{zero_coeffs, band_from}
use Rattle.filters.specs.declared.biquad.BiquadCoeffs.{BiquadCoeffs}
use Rattle.voice.specs.Lists.{join_to, padded}
use Rattle.voice.specs.Limits.{max_bands, list_places}
use Rattle.voice.specs.Voice.{bands_at, centres_list, list_at}

-- the five coefficients of a band as they stand in a voice's lists, and those of 16 bands
abbrev pub coeff_floats : BiquadCoeffs → List Float
coeff_floats c = c.b0 ∷ c.b1 ∷ c.b2 ∷ c.a1 ∷ c.a2 ∷ []

abbrev pub band_floats : List BiquadCoeffs → List Float
band_floats bands = join_to (λ b. coeff_floats (get_or bands b zero_coeffs)) max_bands

-- the bands of these centres, and their compensations. Places past the centres are 0.
abbrev pub init_coeffs : List Float → Float → List BiquadCoeffs
init_coeffs centres rate = padded max_bands zero_coeffs (map (λ c. (band_from c rate).coeffs) centres)

abbrev pub init_compensations : List Float → Float → List Float
init_compensations centres rate = padded max_bands (quotient 0 1) (map (λ c. (band_from c rate).compensation) centres)

-- lists 4 to 9: one after the other
unfoldable pub init_floats : List Float → Float → List Float
init_floats centres rate = band_floats (init_coeffs centres rate) ++ init_compensations centres rate

-- the centres in use: the first j of their list
abbrev pub own_centres : List Float → ℕ → List Float
own_centres xs j = take j (list_at xs centres_list)

-- a voice's short lists with what `init` gives for the centres among them; the other lists as they are
unfoldable pub init_lists : List Float → ℕ → Float → List Float
init_lists xs j rate = take bands_at xs ++ (init_floats (own_centres xs j) rate ++ drop (centres_list * list_places) xs)
