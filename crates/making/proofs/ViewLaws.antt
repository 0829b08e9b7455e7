-- Laws of entries held as their views: what holds of all, of some, of the first or of the largest, said of the views and of their entries.
-- Assumes nothing.
use Prim.Native.Nat.{ℕ, ◌+◌, ◌≤◌, max}
use mathlib.Core.Path.{◌≡◌, refl, ap, sym, ◌∙◌}
use mathlib.Core.List.{List, [], ◌∷◌}
use mathlib.Core.Bool.{Bool, true, false, ◌&&◌, ◌||◌, not, cond}
use native.Mathlib.Omega.{arith}
use lib.ListN.{length, length-map}
use borrow.Author.Tests.{le-leb}
use Rattle.std.specs.Prelude.{Some}
use Rattle.std.specs.List.{list_all, list_any, position_from, fold}
use Rattle.std.proofs.lemmas.List.Folds.{list_all-map}
use Rattle.wire.specs.Parse.{Refusal, refusal}
use Rattle.table.specs.declared.entry.EntryView.{EntryView}
use Rattle.table.specs.declared.desk.Kind.{Kind}
use Rattle.table.specs.Table.{PitchEntry}
use Rattle.table.specs.View.{entry_at}
use Rattle.table.specs.Desk.{bands_of, band_count}
use Rattle.making.specs.Making.{all, any, most, sizes_ok, limits_ok, values_ok, ask_values}
use Rattle.making.specs.inner.Views.{viewed, entries_in, values_then}
use Rattle.making.specs.declared.entries.Entries.{Entries}

-- the definitions' `all` and `any` are the library's
pub all-listed : {A : Type 0} (f : A → Bool) (l : List A) → list_all f l ≡ all f l
unfolding all
all-listed f [] = refl
all-listed f (x ∷ l) = ap (λ t. f x && t) (all-listed f l)

pub any-listed : {A : Type 0} (f : A → Bool) (l : List A) → list_any f l ≡ any f l
unfolding any
any-listed f [] = refl
any-listed f (x ∷ l) = ap (λ t. f x || t) (any-listed f l)

module _ (s : List ℕ) where
  module _ (f : PitchEntry → Bool) where
    pub all-viewed : (views : List EntryView) → list_all (λ v. f (entry_at s v)) views ≡ all f (viewed s views)
    all-viewed views = sym (list_all-map f (entry_at s) views) ∙ all-listed f (viewed s views)

    pub any-viewed : (views : List EntryView) → list_any (λ v. f (entry_at s v)) views ≡ any f (viewed s views)
    unfolding any
    any-viewed [] = refl
    any-viewed (v ∷ vs) = ap (λ t. f (entry_at s v) || t) (any-viewed vs)

  -- the largest count, from one that was found before
  module _ (count : PitchEntry → ℕ) where
    most-from : (best : ℕ) (views : List EntryView) → fold (λ a v. max a (count (entry_at s v))) best views ≡ max best (most count (viewed s views))
    unfolding most
    most-from best [] = omega arith
    most-from best (v ∷ vs) = let h = most-from (max best (count (entry_at s v))) vs in omega arith

    pub most-viewed : (views : List EntryView) → fold (λ a v. max a (count (entry_at s v))) 0 views ≡ most count (viewed s views)
    most-viewed views = let h = most-from 0 views in omega arith

  -- the first with a bad value
  pub bad-viewed : (i : ℕ) (views : List EntryView) (rest : Refusal)
      → values_then (position_from (λ v. not (values_ok (entry_at s v))) i views) rest ≡ ask_values i (viewed s views) rest
  unfolding ask_values
  bad-viewed i [] rest = refl
  bad-viewed i (v ∷ vs) rest = go (values_ok (entry_at s v)) (bad-viewed (i + 1) vs rest)
    where
      go : (b : Bool) → values_then (position_from (λ v. not (values_ok (entry_at s v))) (i + 1) vs) rest ≡ ask_values (i + 1) (viewed s vs) rest
          → values_then (cond (not b) (Some i) (position_from (λ v. not (values_ok (entry_at s v))) (i + 1) vs)) rest
          ≡ cond b (ask_values (i + 1) (viewed s vs) rest) (refusal 9 i 0)
      go true h = h
      go false h = refl

-- the desk's band count is such a count
pub most-bands : (k : Kind) (es : List PitchEntry) → most (bands_of k) es ≡ band_count k es
unfolding most band_count
most-bands k [] = refl
most-bands k (e ∷ es) = ap (max (bands_of k e)) (most-bands k es)

-- question 8 of at most 16 entries is that of their sizes
pub limits-are : (e : Entries) → limits_ok (entries_in e) ≡ all sizes_ok (entries_in e)
unfolding limits_ok
limits-are e =
    let few : length (entries_in e) ≤ 16 = rw (length-map e.views.now (entry_at e.image.now)) e.few in
    rw (le-leb (length (entries_in e)) 16 few) refl
