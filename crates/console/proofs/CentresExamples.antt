-- A few texts of centres and what they come to, by the definition alone. Assumes nothing.
use Rattle.std.proofs.Common.{◌≡◌, ℕ, true, false, [], ◌∷◌, Result, Ok, Err, refl}
use Rattle.console.specs.declared.centres.Centres.{Centres}
use Rattle.console.specs.declared.centres.CentresError.{CentresError}
use Rattle.console.specs.Decimal.{next_scan, scanned, read_of}
use Rattle.console.specs.Pieces.{after_lines}
use Rattle.console.specs.Centres.{plain, faulty_centres, no_centres, with_centre, centres_of}

-- how many centres a text has that has no other line
abbrev count_of : Result Centres CentresError → ℕ
count_of (Ok c) = c.count
count_of (Err e) = 0

-- a comment, an empty line, and 7 with a carriage return after it
comment-and-number : count_of (centres_of (35 ∷ 120 ∷ 10 ∷ 10 ∷ 55 ∷ 13 ∷ 10 ∷ [])) ≡ 1
unfolding centres_of after_lines plain with_centre read_of scanned next_scan
comment-and-number = refl

-- 1, then x, then 2: the second line is no number, and that stays
second-line : centres_of (49 ∷ 10 ∷ 120 ∷ 10 ∷ 50 ∷ []) ≡ faulty_centres 1 false
unfolding centres_of after_lines plain with_centre read_of scanned next_scan
second-line = refl

-- a lone minus sign is no number
minus-alone : centres_of (45 ∷ []) ≡ faulty_centres 0 false
unfolding centres_of after_lines plain with_centre read_of scanned next_scan
minus-alone = refl

-- 17 lines of 1: the last is one too many
one-too-many :
    centres_of
    (49 ∷ 10 ∷ 49 ∷ 10 ∷ 49 ∷ 10 ∷ 49 ∷ 10 ∷ 49 ∷ 10 ∷ 49 ∷ 10 ∷ 49 ∷ 10 ∷ 49 ∷ 10 ∷ 49 ∷ 10 ∷ 49 ∷ 10 ∷ 49 ∷ 10 ∷ 49 ∷ 10 ∷ 49 ∷ 10 ∷ 49 ∷ 10 ∷ 49 ∷ 10 ∷ 49 ∷ 10 ∷ 49 ∷ [])
    ≡ faulty_centres 16 true
unfolding centres_of after_lines plain with_centre read_of scanned next_scan
one-too-many = refl

-- an empty text has no centre
empty : centres_of [] ≡ Ok no_centres
unfolding centres_of after_lines plain
empty = refl
