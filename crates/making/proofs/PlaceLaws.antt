-- What stands at a place of a voice's flat arrays, by the entries' views. Assumes nothing.
use Prim.Native.Nat.{ℕ, zero, suc, ◌+◌, ◌*◌, ◌/◌, ◌≤◌, ◌<◌}
use mathlib.Core.Path.{◌≡◌, refl, ap, sym, ◌∙◌}
use mathlib.Core.List.{List, [], ◌∷◌, ◌++◌}
use mathlib.Core.Option.{some, none}
use native.Mathlib.Omega.{arith}
use native.Mathlib.Nat.{div-lt_iff_lt-mul, le-div_iff_mul-le, mul_comm}
use lib.ListN.{length, get_or, set, drop, replicate}
use lib.Ieee.{Float}
use Rattle.table.specs.declared.entry.EntryView.{EntryView}
use Rattle.table.specs.declared.desk.Kind.{Kind}
use Rattle.table.specs.Table.{PitchEntry}
use Rattle.table.specs.View.{entry_at}
use Rattle.float.specs.F32.{quotient}
use Rattle.voice.specs.Limits.{max_blended}
use Rattle.voice.specs.Lists.{up_to}
use Rattle.voice.proofs.Loops.{up_to-again}
use Rattle.making.specs.Making.{nth, of_entry, slot_coeff, coeff_place}
use Rattle.making.specs.inner.Views.{viewed, no_view}
use Rattle.making.proofs.MakeLists.{up_to-full}

pub row_of : (x n w : ℕ) → 0 < w → x < w * n → x / w < n
row_of x n w p h = (div-lt_iff_lt-mul p).1 (omega (arith, mul_comm w n))

row-past : (x n w : ℕ) → 0 < w → w * n ≤ x → n ≤ x / w
row-past x n w p h = (le-div_iff_mul-le p).1 (omega (arith, mul_comm w n))

-- an entry by its index
nth-view : (s : List ℕ) (views : List EntryView) (i : ℕ) → i < length views → nth (viewed s views) i ≡ some (entry_at s (get_or views i no_view))
nth-view s [] i h = absurd (omega arith)
nth-view s (v ∷ vs) zero h = refl
nth-view s (v ∷ vs) (suc i) h = nth-view s vs i (omega arith)

nth-past : (s : List ℕ) (views : List EntryView) (i : ℕ) → length views ≤ i → nth (viewed s views) i ≡ none
nth-past s [] i h = refl
nth-past s (v ∷ vs) zero h = absurd (omega arith)
nth-past s (v ∷ vs) (suc i) h = nth-past s vs i (omega arith)

-- rows of w columns, four to an entry: what a turn of the loop over the places writes, and that nothing stands past the last entry
module _ (coeff : PitchEntry → ℕ → ℕ → Float) (w : ℕ) (pos : 0 < max_blended * w) (s : List ℕ) (views : List EntryView) (k : Kind) (m : ℕ) where
  abbrev places : ℕ → Float
  places x = coeff_place coeff w k m (viewed s views) x

  pub place-again : (x : ℕ) (l₀ out : List Float) (y : Float) → x < length l₀ → x < max_blended * w * length views
      → y ≡ slot_coeff coeff w k m (entry_at s (get_or views (x / (max_blended * w)) no_view)) x
      → out ≡ up_to places x ++ drop x l₀ → set out x y ≡ up_to places (x + 1) ++ drop (x + 1) l₀
  unfolding coeff_place
  place-again x l₀ out y b h e so =
      let p : places x ≡ y = ap (of_entry (λ e. slot_coeff coeff w k m e x)) (nth-view s views (x / (max_blended * w)) (row_of x (length views) (max_blended * w) pos h)) ∙ sym e in
      rw (← p) (up_to-again places x l₀ out b so)

  pub place-full : (x size : ℕ) (out : List Float) → x ≤ size → x ≡ max_blended * w * length views
      → out ≡ up_to places x ++ drop x (replicate size (quotient 0 1)) → out ≡ up_to places size
  unfolding coeff_place
  place-full x size out b e so =
      up_to-full places (quotient 0 1) x size out b
      (λ y h. ap (of_entry (λ e. slot_coeff coeff w k m e y)) (nth-past s views (y / (max_blended * w)) (row-past y (length views) (max_blended * w) pos (omega arith))))
      so
