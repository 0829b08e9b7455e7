-- A single voice and a blend sound by one formula, of a coefficient and a gain: a blend's gain is 1, and a product with 1 is the float itself.
use mathlib.Core.Path.{◌≡◌, refl, sym, ap, ◌∙◌}
use mathlib.Core.List.{List}
use mathlib.Core.Bool.{Bool, true, false, not, cond}
use Prim.Native.Nat.{ℕ, zero, suc, ◌<◌, ◌≤◌}
use native.Mathlib.Omega.{arith}
use lib.ListN.{get_or, length, take}
use lib.Dec.{T, eqb}
use lib.Ieee.{Float, nan, binary32, fits, ne, round}
use lib.Ieee.Fits.{round-fits, add-fits, mul-fits}
use Rattle.float.specs.Sqrt.{sqrt}
use Rattle.float.specs.F32.{◌⊕◌, ◌⊗◌, quotient}
use Rattle.float.proofs.Identities.{mul-one}
use Rattle.float.proofs.RootBounds.{sqrt-zero-alike}
use Rattle.voice.specs.Lists.{steps}
use Rattle.voice.specs.Voice.{mainlobes, noise_gains, compensations}
use Rattle.filters.specs.Wave.{sine_of}
use Rattle.player.specs.Bracket.{value_between}
use Rattle.player.specs.Sound.{sides_at, fade_at, partial_row, noise_row, add_single, add_blend, blend_coeff, partial_term, add_noise_single, add_noise_blend, blend_power, noise_term}
use Rattle.player.specs.inner.Columns.{added, audible, band_term}
use Rattle.player.specs.inner.Terms.{term_gain, sample_coeff, band_coeff}
use Rattle.voice.specs.declared.voice.Voice.{Voice}
use Rattle.player.proofs.ColumnLaws.{steps-as, first-steps, add-audible}

-- LAW: a blend over the first k gains as a slice
pub blend-of-first : (row : ℕ → Float) (g : List Float) (k : ℕ) → k ≤ length g
    → blend_coeff row (take k g) (length (take k g)) ≡ blend_coeff row g k
unfolding blend_coeff
blend-of-first row g k h = first-steps (λ x q y. y ⊕ x ⊗ row q) g (quotient 0 1) k h

-- a product times 1
times-one : (a b : Float) → a ⊗ b ⊗ quotient 1 1 ≡ a ⊗ b
unfolding round
times-one a b = mul-one (a ⊗ b) (mul-fits binary32 a b)

-- ---- LAW: what a blend adds is what a single voice of gain 1 adds
blend-is-single : (y coeff mainlobe fade p : Float) → add_blend y coeff mainlobe fade p ≡ add_single y coeff mainlobe fade (quotient 1 1) p
unfolding add_single add_blend
blend-is-single y coeff mainlobe fade p = ap (λ (z : Float). cond (ne coeff (quotient 0 1)) (y ⊕ z ⊗ sine_of p) y) (sym (times-one (coeff ⊗ mainlobe) fade))

-- a power is of the format, so it is 0 exactly where its root is
power-fits : (row : ℕ → Float) (g : List Float) (k : ℕ) → T (fits binary32 (blend_power row g k))
unfolding blend_power steps
power-fits row g zero = round-fits binary32 false 0 1
power-fits row g (suc k) = add-fits binary32 _ _

noise-blend-is-single : (y power noise_gain makeup filtered : Float) → T (fits binary32 power) → add_noise_blend y power noise_gain makeup filtered ≡ add_noise_single y (sqrt power) (quotient 1 1) noise_gain makeup filtered
unfolding add_noise_single add_noise_blend ne round
noise-blend-is-single y power noise_gain makeup filtered F =
    ap (λ (b : Bool). cond (not b) (y ⊕ sqrt power ⊗ noise_gain ⊗ makeup ⊗ filtered) y) (sym (sqrt-zero-alike power F))
    ∙ ap (λ (z : Float). cond (ne (sqrt power) (quotient 0 1)) (y ⊕ z ⊗ makeup ⊗ filtered) y) (sym (times-one (sqrt power) noise_gain))

-- ---- LAW: a term of either kind, by one formula
pub partial-by-one : (v : Voice) (f0 : Float) (g : List Float) (i : ℕ) (y p : Float)
    → add_single y (sample_coeff v.set.blend v.set.k (λ q. partial_row v.partials (sides_at v f0) q i) g) (value_between (mainlobes v) (sides_at v f0)) (fade_at v f0 i) (term_gain v.set.blend g) p ≡ partial_term v f0 g i y p
unfolding partial_term
partial-by-one v f0 g i y p = go (eqb v.set.blend 0)
  where
    row : ℕ → Float
    row q = partial_row v.partials (sides_at v f0) q i

    go : (b : Bool) → add_single y (cond b (row 0) (blend_coeff row g v.set.k)) (value_between (mainlobes v) (sides_at v f0)) (fade_at v f0 i) (cond b (get_or g 0 nan) (quotient 1 1)) p
        ≡ cond b (add_single y (row 0) (value_between (mainlobes v) (sides_at v f0)) (fade_at v f0 i) (get_or g 0 nan) p) (add_blend y (blend_coeff row g v.set.k) (value_between (mainlobes v) (sides_at v f0)) (fade_at v f0 i) p)
    go true = refl
    go false = sym (blend-is-single y (blend_coeff row g v.set.k) (value_between (mainlobes v) (sides_at v f0)) (fade_at v f0 i) p)

pub noise-by-one : (v : Voice) (f0 : Float) (g : List Float) (b : ℕ) (y filtered : Float)
    → add_noise_single y (band_coeff v.set.blend v.set.k (λ q. noise_row v.noise (sides_at v f0) q b) g) (term_gain v.set.blend g) (value_between (noise_gains v) (sides_at v f0)) (get_or (compensations v) b nan) filtered ≡ noise_term v f0 g b y filtered
unfolding noise_term
noise-by-one v f0 g b y filtered = go (eqb v.set.blend 0)
  where
    row : ℕ → Float
    row q = noise_row v.noise (sides_at v f0) q b

    go : (t : Bool) → add_noise_single y (cond t (row 0) (sqrt (blend_power row g v.set.k))) (cond t (get_or g 0 nan) (quotient 1 1)) (value_between (noise_gains v) (sides_at v f0)) (get_or (compensations v) b nan) filtered
        ≡ cond t (add_noise_single y (row 0) (get_or g 0 nan) (value_between (noise_gains v) (sides_at v f0)) (get_or (compensations v) b nan) filtered) (add_noise_blend y (blend_power row g v.set.k) (value_between (noise_gains v) (sides_at v f0)) (get_or (compensations v) b nan) filtered)
    go true = refl
    go false = sym (noise-blend-is-single y (blend_power row g v.set.k) (value_between (noise_gains v) (sides_at v f0)) (get_or (compensations v) b nan) filtered (power-fits row g v.set.k))

-- ---- coefficients of equal rows are equal: of a single voice one row, of a blend of k channels k
module _ (blend k : ℕ) (r s : ℕ → Float) (g : List Float) (e : (q : ℕ) → q < cond (eqb blend 0) 1 k → r q ≡ s q) where
  alike : (F : (ℕ → Float) → Float) → (((q : ℕ) → q < k → r q ≡ s q) → F r ≡ F s) → cond (eqb blend 0) (r 0) (F r) ≡ cond (eqb blend 0) (s 0) (F s)
  alike F f = go (eqb blend 0) e
    where
      go : (b : Bool) → ((q : ℕ) → q < cond b 1 k → r q ≡ s q) → cond b (r 0) (F r) ≡ cond b (s 0) (F s)
      go true h = h 0 (omega arith)
      go false h = f h

  pub partial-coeff-as : sample_coeff blend k r g ≡ sample_coeff blend k s g
  unfolding blend_coeff
  partial-coeff-as = alike (λ row. blend_coeff row g k) (λ h. steps-as _ _ (quotient 0 1) k (λ q a y. ap (λ (z : Float). y ⊕ get_or g q nan ⊗ z) (h q a)))

  pub band-coeff-as : band_coeff blend k r g ≡ band_coeff blend k s g
  unfolding blend_power
  band-coeff-as = alike (λ row. sqrt (blend_power row g k)) (λ h. ap sqrt (steps-as _ _ (quotient 0 1) k (λ q a y. ap (λ (z : Float). y ⊕ (get_or g q nan ⊗ z) ⊗ (get_or g q nan ⊗ z)) (h q a))))

-- ---- LAW: what is stored as a term, added, from what the column before it holds
pub partial-stored : (y term coeff c gain g mainlobe fade sine : Float) → T (fits binary32 y) → term ≡ audible coeff (coeff ⊗ mainlobe ⊗ fade ⊗ gain ⊗ sine) → coeff ≡ c → gain ≡ g
    → y ⊕ term ≡ added y c (c ⊗ mainlobe ⊗ fade ⊗ g ⊗ sine)
partial-stored y term coeff c gain g mainlobe fade sine f et ec eg = rw (et, ec, eg) (add-audible y c (c ⊗ mainlobe ⊗ fade ⊗ g ⊗ sine) f)

pub band-stored : (y term coeff c gain g noise_gain makeup filtered : Float) → T (fits binary32 y) → term ≡ band_term coeff noise_gain gain makeup filtered → coeff ≡ c → gain ≡ g
    → y ⊕ term ≡ add_noise_single y c g noise_gain makeup filtered
unfolding band_term add_noise_single
band-stored y term coeff c gain g noise_gain makeup filtered f et ec eg = rw (et, ec, eg) (add-audible y c (c ⊗ noise_gain ⊗ g ⊗ makeup ⊗ filtered) f)
