-- A text cut into pieces at some of its bytes, which belong to no piece: a text into lines, and a line into words.
use Rattle.std.specs.Prelude.{ℕ, suc, Bool, List, [], ◌∷◌, ◌==◌}
use Rattle.std.specs.List.{slice_split}

-- the pieces of a text: a byte that cuts stands between two, and a piece may be empty
abbrev pub pieces_of : (ℕ → Bool) → List ℕ → List (List ℕ)
pieces_of cuts text = slice_split cuts text

-- the lines of a text: a line feed (10) stands between two
abbrev pub is_feed : ℕ → Bool
is_feed b = b == 10

abbrev pub lines_of : List ℕ → List (List ℕ)
lines_of text = pieces_of is_feed text

-- what the lines come to in turn, n of which stand above: `after` says what a line does to what those above it came to
unfoldable pub after_lines : {A : Type 0} → (A → ℕ → List ℕ → A) → A → ℕ → List (List ℕ) → A
after_lines after a n [] = a
after_lines after a n (l ∷ ls) = after_lines after (after a n l) (suc n) ls
