-- The live bands in columns, and a sample of them. Cited by private functions only.
use Rattle.std.specs.Prelude.{◌≡◌, ℕ, List, length, get_or, Float}
use Rattle.std.specs.Float.{nan}
use Rattle.voice.specs.Voice.{list_at, compensations_list}
use Rattle.player.specs.inner.Columns.{Memories, Coeffs, Ticked, Filled}
use Rattle.player.specs.declared.noise.bands.BandColumns.{BandColumns}

-- what the columns hold that stays: the live bands' coefficients and compensations, of a voice with these short lists
pub record Fixed (b : BandColumns) (lists : List Float) (live : List ℕ) : Type 0 where
  pub coeffs-are : Coeffs b.coeffs lists live (length live)
  pub makeup-is : Filled b.makeup (λ l. get_or (list_at lists compensations_list) (get_or live l 0) nan) (length live)

-- and at first: also their memories
pub record Gathered (b : BandColumns) (lists memories : List Float) (live : List ℕ) : Type 0 where
  pub fixed : Fixed b lists live
  pub memories-are : Memories b.z1 b.z2 memories live (length live)

-- one sample x of n bands: what their filters answer, and what stays
pub record Ticks (old new : BandColumns) (x : Float) (n : ℕ) : Type 0 where
  pub ticked : Ticked new.ys new.z1 new.z2 old.z1 old.z2 old.coeffs x n
  pub coeffs-stay : new.coeffs ≡ old.coeffs
  pub makeup-stays : new.makeup ≡ old.makeup
