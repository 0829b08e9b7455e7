-- The laws of columns: what a turn of a loop over a column leaves, and what the places that are filled say of a sum.
use mathlib.Core.Path.{◌≡◌, refl, sym, ap, ◌∙◌}
use mathlib.Core.Logic.{⊎_elim}
use mathlib.Core.List.{List, ◌++◌}
use mathlib.Core.Bool.{Bool, true, false, cond, ◌&&◌}
use Prim.Native.Nat.{ℕ, zero, suc, ◌+◌, ◌*◌, ◌≤◌, ◌<◌}
use native.Mathlib.Nat.{eq-or-lt_of_le}
use native.Mathlib.Omega.{arith}
use lib.ListN.{length, get_or, set, take, replicate, get_or-append, length-replicate, get_or-replicate}
use lib.Seq.{get_or-set_same, get_or-set_other, lt-length-set, get_or-take, length-take-le}
use lib.Dec.{T}
use lib.Ieee.{Float, nan, binary32, fits, eq, ne}
use lib.Ieee.Fits.{add-fits}
use Rattle.float.specs.F32.{◌⊕◌, quotient}
use Rattle.float.proofs.Identities.{add-minus-zero}
use Rattle.voice.specs.Lists.{map_to, steps, every}
use Rattle.filters.specs.Biquad.{tick_of}
use Rattle.voice.specs.Voice.{memory_at}
use Rattle.player.specs.inner.Columns.{added, audible, minus_zero, state_of_columns, coeffs_of_rows, Memories, Ticked, Filled, FilledRows}
use Rattle.filters.specs.declared.biquad.BiquadState.{BiquadState}
use Rattle.filters.specs.declared.biquad.Tick.{Tick}
use Rattle.voice.proofs.Loops.{map_to-at}

-- ---- a column that a loop fills
-- the place that is written
pub set-at-place : (xs : List Float) (i : ℕ) (x : Float) → i < length xs → get_or (set xs i x) i nan ≡ x
set-at-place xs i x h = get_or-set_same xs i x nan h

-- and another
pub set_before : (xs : List Float) (i j : ℕ) (x : Float) → j < i → get_or (set xs i x) j nan ≡ get_or xs j nan
set_before xs i j x h = get_or-set_other xs i j x nan (λ (e : j ≡ i). omega arith)

pub set_after : (xs : List Float) (i j : ℕ) (x : Float) → i < j → get_or (set xs i x) j nan ≡ get_or xs j nan
set_after xs i j x h = get_or-set_other xs i j x nan (λ (e : j ≡ i). omega arith)

-- a fact of every index below n + 1, from those below n and the one at n
pub one_more : {P : ℕ → Type 0} (n : ℕ) → ((i : ℕ) → i < n → P i) → P n → (i : ℕ) → i < n + 1 → P i
one_more {P} n before last i h = ⊎_elim (λ (e : i ≡ n). rw e last) (λ (l : i < n). before i l) (eq-or-lt_of_le (omega arith))

module _ (f : ℕ → Float) where
  pub filled_none : (xs : List Float) → Filled xs f 0
  filled_none xs = record { at = λ i h. absurd (omega arith) }

  -- what a turn of a loop stores
  pub filled-again : (xs : List Float) (i : ℕ) (x : Float) → i < length xs → x ≡ f i → Filled xs f i → Filled (set xs i x) f (i + 1)
  filled-again xs i x h e F = record { at = one_more i (λ j l. set_before xs i j x l ∙ F.at j l) (set-at-place xs i x h ∙ e) }

  pub filled-full : (xs : List Float) (i n : ℕ) → i ≡ n → Filled xs f i → Filled xs f n
  filled-full xs i n e F = rw e at F

  pub filled-as : (xs : List Float) (g : ℕ → Float) (n : ℕ) → ((i : ℕ) → i < n → f i ≡ g i) → Filled xs f n → Filled xs g n
  filled-as xs g n e F = record { at = λ i h. F.at i h ∙ e i h }

-- ---- a column whose first n places are filled with one number
pub filled-with : (ys rest : List Float) (x : Float) (k n : ℕ) → n ≡ k → ys ≡ replicate k x → Filled (ys ++ rest) (λ i. x) n
filled-with ys rest x k n q e = record {
  at = λ i h.
      let l : length ys ≡ k = ap (λ (z : List Float). length z) e ∙ length-replicate k x in
      get_or-append ys rest nan i (omega arith) ∙ ap (λ (z : List Float). get_or z i nan) e ∙ get_or-replicate k i x nan (omega arith);
}

-- ---- a column that a loop changes in place: the places from i on are as they were
pub record KeptFrom (xs ys : List Float) (i : ℕ) : Type 0 where
  pub at : (j : ℕ) → i ≤ j → get_or xs j nan ≡ get_or ys j nan

pub kept-all : (xs : List Float) → KeptFrom xs xs 0
kept-all xs = record { at = λ j h. refl }

pub kept_again : (xs ys : List Float) (i : ℕ) (x : Float) → KeptFrom xs ys i → KeptFrom (set xs i x) ys (i + 1)
kept_again xs ys i x K = record { at = λ j h. set_after xs i j x (omega arith) ∙ K.at j (omega arith) }

-- ---- steps that are equal below n give equal results
pub steps-as : {A : Type 0} (f g : ℕ → A → A) (s : A) (n : ℕ) → ((i : ℕ) → i < n → (x : A) → f i x ≡ g i x) → steps f s n ≡ steps g s n
unfolding steps
steps-as f g s zero e = refl
steps-as f g s (suc n) e = ap (f n) (steps-as f g s n (λ i h. e i (omega arith))) ∙ e n (omega arith) _

-- a sum of f32 fits the format
sum_fits : (xs : List Float) (y : Float) (n : ℕ) → T (fits binary32 y) → T (fits binary32 (steps (λ i y. y ⊕ get_or xs i nan) y n))
unfolding steps
sum_fits xs y zero h = h
sum_fits xs y (suc n) h = add-fits binary32 _ _

-- LAW: what `sum_of` ensures, where adding place i to a number of the format is step i
pub sum_is : (xs : List Float) (g : ℕ → Float → Float) (y : Float) (n : ℕ) → T (fits binary32 y)
    → ((i : ℕ) → i < n → (z : Float) → T (fits binary32 z) → z ⊕ get_or xs i nan ≡ g i z)
    → steps (λ i y. y ⊕ get_or xs i nan) y n ≡ steps g y n
unfolding steps
sum_is xs g y zero h e = refl
sum_is xs g y (suc n) h e =
    e n (omega arith) _ (sum_fits xs y n h) ∙ ap (g n) (sum_is xs g y n h (λ i l. e i (omega arith)))

-- ---- the first n places as a slice: steps over them, and a test of each
pub first-steps : {A : Type 0} (f : Float → ℕ → A → A) (xs : List Float) (s : A) (n : ℕ) → n ≤ length xs
    → steps (λ i y. f (get_or (take n xs) i nan) i y) s (length (take n xs)) ≡ steps (λ i y. f (get_or xs i nan) i y) s n
first-steps f xs s n h =
    rw (length-take-le n xs h)
    (steps-as _ _ s n (λ i l y. ap (λ (x : Float). f x i y) (get_or-take n xs i nan l)))

pub first-every : (test : Float → Bool) (xs : List Float) (n : ℕ) → n ≤ length xs
    → every (λ i. test (get_or (take n xs) i nan)) (length (take n xs)) ≡ every (λ i. test (get_or xs i nan)) n
first-every test xs n h = first-steps (λ x i b. b && test x) xs true n h

-- LAW: and what it ensures of the first n places as a slice
pub first-sum : (xs : List Float) (g : ℕ → Float → Float) (y : Float) (n : ℕ) → n ≤ length xs → T (fits binary32 y)
    → ((i : ℕ) → i < n → (z : Float) → T (fits binary32 z) → z ⊕ get_or xs i nan ≡ g i z)
    → steps (λ i y. y ⊕ get_or (take n xs) i nan) y (length (take n xs)) ≡ steps g y n
first-sum xs g y n l h e = first-steps (λ x i y. y ⊕ x) xs y n l ∙ sum_is xs g y n h e

-- ---- rows of 32 places
-- the first starts at place 0
pub first-row : (xs : List Float) (i : ℕ) → get_or xs (0 * 32 + i) nan ≡ get_or xs i nan
first-row xs i = let e : 0 * 32 + i ≡ i = omega arith in ap (λ (z : ℕ). get_or xs z nan) e

-- row q is filled up to place l
pub record RowFilled (xs : List Float) (f : ℕ → Float) (q l : ℕ) : Type 0 where
  pub at : (i : ℕ) → i < l → get_or xs (q * 32 + i) nan ≡ f i

module _ (f : ℕ → ℕ → Float) where
  pub rows_none : (xs : List Float) (n : ℕ) → FilledRows xs f 0 n
  rows_none xs n = record { at = λ q i h l. absurd (omega arith) }

  pub row-none : (xs : List Float) (q : ℕ) → RowFilled xs (f q) q 0
  row-none xs q = record { at = λ i h. absurd (omega arith) }

  -- a place of row q is written: the rows before it stay
  pub rows-keep : (xs : List Float) (q n l : ℕ) (x : Float) → n ≤ 32 → FilledRows xs f q n → FilledRows (set xs (q * 32 + l) x) f q n
  rows-keep xs q n l x h F = record { at = λ p i a b. set_before xs (q * 32 + l) (p * 32 + i) x (omega arith) ∙ F.at p i a b }

  pub row-again : (xs : List Float) (q l : ℕ) (x : Float) → q * 32 + l < length xs → x ≡ f q l → RowFilled xs (f q) q l → RowFilled (set xs (q * 32 + l) x) (f q) q (l + 1)
  row-again xs q l x h e R = record { at = one_more l (λ i a. set_before xs (q * 32 + l) (q * 32 + i) x (omega arith) ∙ R.at i a) (set-at-place xs (q * 32 + l) x h ∙ e) }

  -- and when row q is full there is one row more
  pub rows-again : (xs : List Float) (q n l : ℕ) → l ≡ n → FilledRows xs f q n → RowFilled xs (f q) q l → FilledRows xs f (q + 1) n
  rows-again xs q n l e F R = record { at = λ p i a b. one_more {P = λ (p : ℕ). get_or xs (p * 32 + i) nan ≡ f p i} q (λ p c. F.at p i c b) (R.at i (omega arith)) p a }

  pub rows-full : (xs : List Float) (q k n : ℕ) → q ≡ k → FilledRows xs f q n → FilledRows xs f k n
  rows-full xs q k n e F = rw e at F

-- ---- columns of records: what a turn of a loop stores
abbrev state_from : Float → Float → BiquadState
state_from z1 z2 = record { z1 = z1; z2 = z2 }

state-before : (z1 z2 : List Float) (l i : ℕ) (x y : Float) → i < l → state_of_columns (set z1 l x) (set z2 l y) i ≡ state_of_columns z1 z2 i
state-before z1 z2 l i x y h = rw (set_before z1 l i x h, set_before z2 l i y h)

state-at : (z1 z2 : List Float) (l : ℕ) (x y : Float) → l < length z1 → l < length z2 → state_of_columns (set z1 l x) (set z2 l y) l ≡ state_from x y
state-at z1 z2 l x y h k = rw (set-at-place z1 l x h, set-at-place z2 l y k)

pub memories-stored : (z1 z2 : List Float) (ms : List Float) (live : List ℕ) (l : ℕ) (m : BiquadState) → length z1 ≡ 32 → length z2 ≡ 32 → l < 32 → m ≡ memory_at ms (get_or live l 0) → Memories z1 z2 ms live l
    → Memories (set z1 l m.z1) (set z2 l m.z2) ms live (l + 1)
memories-stored z1 z2 ms live l m h1 h2 h e M =
    record { at = one_more l (λ i a. M.at i a ∙ sym (state-before z1 z2 l i m.z1 m.z2 a)) (sym e ∙ sym (state-at z1 z2 l m.z1 m.z2 (omega arith) (omega arith))) }

pub memories-full : (z1 z2 : List Float) (ms : List Float) (live : List ℕ) (l n : ℕ) → l ≡ n → Memories z1 z2 ms live l → Memories z1 z2 ms live n
memories-full z1 z2 ms live l n e M = rw e at M

-- a turn of `tick_bands`: t is the tick of place l
pub ticked-again : (ys w1 w2 z1 z2 cs : List Float) (x : Float) (l : ℕ) (t : Tick) → length ys ≡ 32 → length w1 ≡ 32 → length w2 ≡ 32 → l < 32
    → t ≡ tick_of (state_of_columns z1 z2 l) x (coeffs_of_rows cs l) → Ticked ys w1 w2 z1 z2 cs x l
    → Ticked (set ys l t.y) (set w1 l t.state.z1) (set w2 l t.state.z2) z1 z2 cs x (l + 1)
ticked-again ys w1 w2 z1 z2 cs x l t hy h1 h2 h e K =
    record {
      at =
          one_more l (λ i a. rw (state-before w1 w2 l i t.state.z1 t.state.z2 a, set_before ys l i t.y a) (K.at i a))
          (rw (state-at w1 w2 l t.state.z1 t.state.z2 (omega arith) (omega arith), set-at-place ys l t.y (omega arith)) e);
    }

-- the memories of place l are still those at first
pub state-kept : (w1 w2 z1 z2 : List Float) (l : ℕ) → KeptFrom w1 z1 l → KeptFrom w2 z2 l → state_of_columns w1 w2 l ≡ state_of_columns z1 z2 l
state-kept w1 w2 z1 z2 l K J = rw (K.at l (omega arith), J.at l (omega arith))

pub ticked-full : (ys w1 w2 z1 z2 cs : List Float) (x : Float) (l n : ℕ) → l ≡ n → Ticked ys w1 w2 z1 z2 cs x l → Ticked ys w1 w2 z1 z2 cs x n
ticked-full ys w1 w2 z1 z2 cs x l n e K = rw e at K

-- ---- a term is stored, and -0 over it where the coefficient is 0
-- LAW: adding what is audible, or -0 where nothing is, is adding where something is audible
pub add-audible : (y c x : Float) → T (fits binary32 y) → y ⊕ audible c x ≡ added y c x
add-audible y c x F = go (ne c (quotient 0 1))
  where
    go : (b : Bool) → y ⊕ cond b x minus_zero ≡ cond b (y ⊕ x) y
    go true = refl
    go false = add-minus-zero y F

pub audible-is : (c x : Float) → eq c (quotient 0 1) ≡ false → x ≡ audible c x
unfolding ne
audible-is c x h = rw h

pub silent-is : (c x : Float) → eq c (quotient 0 1) ≡ true → minus_zero ≡ audible c x
unfolding ne
silent-is c x h = rw h

module _ (f : ℕ → Float) (xs : List Float) (n : ℕ) (c x : Float) where
  pub audible-again : (v : Float) → n < length xs → audible c x ≡ f n → eq c (quotient 0 1) ≡ false → v ≡ x → Filled xs f n → Filled (set xs n v) f (n + 1)
  audible-again v h e z q F = filled-again f xs n v h (q ∙ audible-is c x z ∙ e) F

  pub silent-again : (v w : Float) → n < length xs → audible c x ≡ f n → eq c (quotient 0 1) ≡ true → w ≡ minus_zero → Filled xs f n → Filled (set (set xs n v) n w) f (n + 1)
  silent-again v w h e z q F =
      filled-again f (set xs n v) n w (lt-length-set xs n v h) (q ∙ silent-is c x z ∙ e) (record { at = λ i l. get_or-set_other xs n i v nan (λ p. absurd (omega arith)) ∙ F.at i l })

-- ---- a column of which each place was mapped
pub mapped-filled : (f : ℕ → Float → Float) (n : ℕ) (l xs : List Float) → n ≤ length l → xs ≡ map_to f 0 n l → Filled xs (λ i. f i (get_or l i nan)) n
mapped-filled f n l xs h e = record { at = λ i k. ap (λ (z : List Float). get_or z i nan) e ∙ map_to-at f nan n i l k (omega arith) }
