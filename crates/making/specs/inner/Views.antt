-- Entries of a table where they stand in an image, held as their views. Cited by private functions only.
use Rattle.std.specs.Prelude.{cond, ℕ, suc, List, [], ◌∷◌, map, Option, Some, None, Result, Ok, Err, Float}
use Rattle.std.specs.Float.Ieee.{lt}
use Rattle.wire.specs.Parse.{Refusal, refusal}
use Rattle.table.specs.declared.entry.EntryView.{EntryView}
use Rattle.table.specs.Table.{PitchEntry}
use Rattle.table.specs.View.{entry_at}
pub use Rattle.table.specs.Views.{no_view}
use Rattle.making.specs.Making.{f32}
use Rattle.making.specs.Answer.{make_refusal}
use Rattle.making.specs.declared.entries.Entries.{Entries}
use Rattle.making.specs.declared.error.MakeError.{MakeError}

-- the entries that views of an image are of
abbrev pub viewed : List ℕ → List EntryView → List PitchEntry
viewed s views = map (entry_at s) views

abbrev pub entries_in : Entries → List PitchEntry
entries_in e = viewed e.image.now e.views.now

-- what the questions' answer means: number 0 where all were answered yes
abbrev pub asked : Result Unit MakeError → Refusal
asked (Ok u) = refusal 0 0 0
asked (Err e) = make_refusal e

-- what follows question 9's answer: refusal 9 with the first bad entry's index, or the rest
abbrev pub values_then : Option ℕ → Refusal → Refusal
values_then None rest = rest
values_then (Some i) rest = refusal 9 i 0

-- how many views stand before the first of a higher pitch
unfoldable pub place_in : Float → List EntryView → ℕ
place_in f [] = 0
place_in f (x ∷ xs) = cond (lt f (f32 x.f0_hz)) 0 (suc (place_in f xs))
