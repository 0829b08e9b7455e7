-- Columns of live bands: place l of a column belongs to live band l, that is to band `live[l]`. Cited by private functions only.
use Rattle.std.specs.Prelude.{ℕ, ◌+◌, ◌*◌, ◌<◌, ◌≤◌, ◌≡◌, List, true, cond, pos, length, get_or, Float}
use Rattle.std.specs.Float.{nan, fin}
use Rattle.std.specs.Float.Ieee.{ne}
use Rattle.float.specs.F32.{◌⊕◌, ◌⊗◌, quotient}
use Rattle.filters.specs.Biquad.{tick_of}
use Rattle.voice.specs.Lists.{steps}
use Rattle.voice.specs.Voice.{band_at, memory_at, with_memory}
use Rattle.filters.specs.declared.biquad.BiquadCoeffs.{BiquadCoeffs}
use Rattle.filters.specs.declared.biquad.BiquadState.{BiquadState}
use Rattle.voice.specs.Limits.{max_bands}

-- each of the first n is one of 16 bands
pub record LiveIn (live : List ℕ) (n : ℕ) : Type 0 where
  pub below : (l : ℕ) → l < n → get_or live l 0 < max_bands

-- bands that tick, of which there are no more than a voice can have
pub record LiveFits (live : List ℕ) : Type 0 where
  pub most : length live ≤ max_bands
  pub inside : LiveIn live (length live)

-- place l of two columns, and of five rows of 32 places
abbrev pub state_of_columns : List Float → List Float → ℕ → BiquadState
state_of_columns z1 z2 l = record { z1 = get_or z1 l nan; z2 = get_or z2 l nan }

abbrev pub coeffs_of_rows : List Float → ℕ → BiquadCoeffs
coeffs_of_rows cs l = record {
  b0 = get_or cs l nan;
  b1 = get_or cs (32 + l) nan;
  b2 = get_or cs (64 + l) nan;
  a1 = get_or cs (96 + l) nan;
  a2 = get_or cs (128 + l) nan;
}

-- the columns hold the live bands' memories, which lie in ms, and the rows their coefficients, which lie in a voice's lists
pub record Memories (z1 z2 ms : List Float) (live : List ℕ) (n : ℕ) : Type 0 where
  pub at : (l : ℕ) → l < n → memory_at ms (get_or live l 0) ≡ state_of_columns z1 z2 l

pub record Coeffs (cs lists : List Float) (live : List ℕ) (n : ℕ) : Type 0 where
  pub at : (l : ℕ) → l < n → band_at lists (get_or live l 0) ≡ coeffs_of_rows cs l

-- the memories with those of the first n live bands put back from the columns
abbrev pub scattered : List ℕ → List Float → List Float → List Float → ℕ → List Float
scattered live z1 z2 ms n = steps (λ l ms. with_memory ms (get_or live l 0) (state_of_columns z1 z2 l)) ms n

-- one sample x of n filters: the columns ys, w1, w2 hold what `tick` answers for the memories z1, z2
pub record Ticked (ys w1 w2 z1 z2 cs : List Float) (x : Float) (n : ℕ) : Type 0 where
  pub at : (l : ℕ) → l < n → record { state = state_of_columns w1 w2 l; y = get_or ys l nan } ≡ tick_of (state_of_columns z1 z2 l) x
      (coeffs_of_rows cs l)

-- ---- what a partial or a live band adds to the sample: x where its coefficient c is not 0
abbrev pub added : Float → Float → Float → Float
added y c x = cond (ne c (quotient 0 1)) (y ⊕ x) y

-- the same as a number to add. Where the coefficient is 0 that is -0, which changes no float that it is added to.
abbrev pub minus_zero : Float
minus_zero = fin true 0 (pos 0)

abbrev pub audible : Float → Float → Float
audible c x = cond (ne c (quotient 0 1)) x minus_zero

-- what a live band adds
unfoldable pub band_term : Float → Float → Float → Float → Float → Float
band_term coeff noise_gain gain makeup filtered = audible coeff (coeff ⊗ noise_gain ⊗ gain ⊗ makeup ⊗ filtered)

-- ---- columns: lists of which the first places are in use
-- the first n places hold f 0, f 1, .., f (n - 1)
pub record Filled (xs : List Float) (f : ℕ → Float) (n : ℕ) : Type 0 where
  pub at : (i : ℕ) → i < n → get_or xs i nan ≡ f i

-- rows of 32 places: row q, for q below k, holds f q 0, f q 1, .., f q (n - 1)
pub record FilledRows (xs : List Float) (f : ℕ → ℕ → Float) (k n : ℕ) : Type 0 where
  pub at : (q i : ℕ) → q < k → i < n → get_or xs (q * 32 + i) nan ≡ f q i

-- what a closure gives: f of each place below n, of each place of k rows of n, and of every float
abbrev pub GivesEach : (ℕ → Float → Type 0) → ℕ → (ℕ → Float) → Type 0
GivesEach post n f = (i : ℕ) (r : Float) → i < n → post i r → r ≡ f i

abbrev pub GivesRows : (ℕ → ℕ → Float → Type 0) → ℕ → ℕ → (ℕ → ℕ → Float) → Type 0
GivesRows post k n f = (q i : ℕ) (r : Float) → q < k → i < n → post q i r → r ≡ f q i

abbrev pub GivesAll : (Float → Float → Type 0) → (Float → Float) → Type 0
GivesAll post f = (x r : Float) → post x r → r ≡ f x
