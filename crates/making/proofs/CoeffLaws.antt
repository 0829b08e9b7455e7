-- Laws of an entry's coefficients, by the tests of the code. Assumes nothing.
use Prim.Native.Nat.{ℕ, zero, suc, ◌+◌, ◌-◌, ◌*◌, ◌^◌, ◌≤◌, ◌<◌, min}
use mathlib.Core.Path.{◌≡◌, refl, ap, sym, ◌∙◌}
use mathlib.Core.Logic.{inl, inr}
use mathlib.Core.List.{List}
use mathlib.Core.Bool.{Bool, true, false, cond}
use native.Mathlib.Omega.{arith}
use lib.ListN.{length}
use lib.Dec.{leb, ltb, eqb}
use borrow.Author.Tests.{lt-ltb, le-ltb, le-leb}
use lib.Ieee.{Float}
use Rattle.std.specs.Prelude.{Option as CodeOption, Some, None, MatchOption}
use Rattle.std.proofs.lemmas.Bool.{cases_lt}
use Rattle.std.proofs.lemmas.List.{get_or_past}
use Rattle.table.specs.declared.entry.EntryView.{EntryView}
use Rattle.table.specs.declared.error.CoeffTableCodecError.{CoeffTableCodecError}
use Rattle.table.specs.Answer.{refusal_of, found_bits}
use Rattle.table.specs.Table.{PitchEntry, m_partials, width, has_channel, coefficient_at}
use Rattle.table.specs.View.{entry_at}
use Rattle.table.proofs.WordLaws.{length-words}
use Rattle.float.specs.F32.{quotient}
use Rattle.making.specs.Making.{f32, gain_or1, sizes_ok, partial_coeff, noise_coeff, is_nonzero, partial_reach}
use Rattle.making.specs.Answer.{make_refusal}
use Rattle.making.specs.declared.error.MakeError.{MakeError}

-- M is what the view says
pub partials-are : (s : List ℕ) (v : EntryView) → m_partials (entry_at s v) ≡ v.m_partials
partials-are s v = length-words s v.partials_at v.m_partials

pub partial_there : (s : List ℕ) (v : EntryView) (c i : ℕ) → i < v.m_partials → partial_coeff (entry_at s v) c i ≡ f32 (coefficient_at (entry_at s v) c i)
partial_there s v c i h = rw (partials-are s v, lt-ltb i v.m_partials h) refl

pub partial-lacking : (s : List ℕ) (v : EntryView) (c i : ℕ) → v.m_partials ≤ i → partial_coeff (entry_at s v) c i ≡ quotient 0 1
partial-lacking s v c i h = rw (partials-are s v, le-ltb i v.m_partials h) refl

pub noise-there : (s : List ℕ) (v : EntryView) (c b : ℕ) → b < v.j_noise → noise_coeff (entry_at s v) c b ≡ f32 (coefficient_at (entry_at s v) c (v.m_partials + b))
noise-there s v c b h = rw (partials-are s v, lt-ltb b v.j_noise h) refl

pub noise-lacking : (s : List ℕ) (v : EntryView) (c b : ℕ) → v.j_noise ≤ b → noise_coeff (entry_at s v) c b ≡ quotient 0 1
noise-lacking s v c b h = rw (le-ltb b v.j_noise h) refl

-- past an entry's coefficients there is none
coefficient-past : (e : PitchEntry) (c column : ℕ) → length e.coefficients ≤ column → coefficient_at e c column ≡ 0
unfolding coefficient_at
coefficient-past e c column h =
    let past : length e.coefficients ≤ c * width e + column = omega arith in
    rw (get_or_past e.coefficients (c * width e + column) 0 past) (go (has_channel e c) (ltb column (width e)))
  where
    go : (a b : Bool) → ◌≡◌ {A = ℕ} (cond a (cond b 0 0) 0) 0
    go true true = refl
    go true false = refl
    go false b = refl

-- so a column that is held to 32 bits has the coefficient of the column itself
pub coefficient-held : (s : List ℕ) (v : EntryView) (c column held : ℕ) → v.coefficients < 2 ^ 32 → held ≡ min column 4294967295
    → coefficient_at (entry_at s v) c held ≡ coefficient_at (entry_at s v) c column
coefficient-held s v c column held few e =
    let n : length (entry_at s v).coefficients ≡ v.coefficients = length-words s v.coefficients_at v.coefficients in
    elim (cases_lt column (2 ^ 32)) [
      | inl h ↦ let q : held ≡ column = omega arith in ap (coefficient_at (entry_at s v) c) q
      | inr h ↦ coefficient-past (entry_at s v) c held (rw n (omega arith)) ∙ sym (coefficient-past (entry_at s v) c column (rw n (omega arith)))
    ]

-- a gain is the float of its bits where there is one, and 1 where there is none
pub gain-is : (o : CodeOption ℕ) (r : Float) (P : ℕ → Type 0) → ((b : ℕ) → P b → r ≡ f32 b) → MatchOption o (r ≡ quotient 1 1) P → r ≡ gain_or1 (found_bits o)
gain-is None r P h m = m
gain-is (Some b) r P h m = h b m

-- question 8 of one entry
pub size-yes : (s : List ℕ) (v : EntryView) → v.m_partials ≤ 32 → leb v.j_noise 16 ≡ sizes_ok (entry_at s v)
size-yes s v h = rw (partials-are s v, le-leb v.m_partials 32 h) refl

-- LAW: a search from the top down, at i. It ends where the test holds at i - 1, and else goes on below.
module _ {A : Type 0} (f : ℕ → A) (test : ℕ → Bool) (found : ℕ → A) (step : (i : ℕ) → f (suc i) ≡ cond (test i) (found (suc i)) (f i)) (n : ℕ) where
  down-hit : (i : ℕ) → f i ≡ f n → 0 < i → test (i - 1) ≡ true → found i ≡ f n
  down-hit zero e h t = absurd (omega arith)
  down-hit (suc i) e h t = let q : suc i - 1 ≡ i = omega arith in rw (rw q at t) at (sym (step i) ∙ e)

  down-miss : (i : ℕ) → f i ≡ f n → 0 < i → test (i - 1) ≡ false → f (i - 1) ≡ f n
  down-miss zero e h t = absurd (omega arith)
  down-miss (suc i) e h t = let q : suc i - 1 ≡ i = omega arith in rw q (rw (rw q at t) at (sym (step i) ∙ e))

-- so the highest partial that is not 0 is found
module _ (e : PitchEntry) (c n i : ℕ) (so : partial_reach e c i ≡ partial_reach e c n) (h : 0 < i) where
  pub reach-hit : is_nonzero (partial_coeff e c (i - 1)) ≡ true → i ≡ partial_reach e c n
  unfolding partial_reach
  reach-hit t = down-hit (partial_reach e c) (λ i. is_nonzero (partial_coeff e c i)) (λ i. i) (λ i. refl) n i so h t

  pub reach-miss : is_nonzero (partial_coeff e c (i - 1)) ≡ false → partial_reach e c (i - 1) ≡ partial_reach e c n
  unfolding partial_reach
  reach-miss t = down-miss (partial_reach e c) (λ i. is_nonzero (partial_coeff e c i)) (λ i. i) (λ i. refl) n i so h t

-- every refusal has a number
pub refused-number : (e : CoeffTableCodecError) → eqb (refusal_of e).number 0 ≡ false
refused-number CoeffTableCodecError.TooLong = refl
refused-number CoeffTableCodecError.UnexpectedEof = refl
refused-number CoeffTableCodecError.BadMagic = refl
refused-number (CoeffTableCodecError.UnsupportedVersion v) = refl
refused-number CoeffTableCodecError.BadUtf8 = refl
refused-number (CoeffTableCodecError.MalformedEntry i) = refl
refused-number (CoeffTableCodecError.InconsistentNoiseBandSpan f i) = refl

pub error-number : (e : MakeError) → eqb (make_refusal e).number 0 ≡ false
error-number (MakeError.Refused e) = refused-number e
error-number MakeError.TooLarge = refl
error-number (MakeError.BadEntry i) = refl
error-number MakeError.NoChannel = refl
error-number MakeError.BadRate = refl
error-number MakeError.BadCentres = refl
