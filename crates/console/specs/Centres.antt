-- The meaning of a text of band centres: a decimal number a line. Empty lines and lines that start with # say nothing.
use Rattle.std.specs.Prelude.{ℕ, ◌+◌, ◌≤◌, Bool, true, false, cond, List, [], ◌∷◌, replicate, Option, Some, None, Result, Ok, Err, pos, ◌==◌, nat_lt, slice_set, Float}
use Rattle.std.specs.Float.{fin}
use Rattle.console.specs.declared.decimal.Decimal.{Decimal}
use Rattle.console.specs.declared.centres.Centres.{Centres}
use Rattle.console.specs.declared.centres.CentresError.{CentresError}
use Rattle.console.specs.Decimal.{read_of}
use Rattle.console.specs.Narrow.{value_of}
use Rattle.console.specs.Pieces.{lines_of, after_lines}

-- at most as many as there are places
abbrev pub Few : Centres → Type 0
Few c = c.count ≤ 16

-- a line without its carriage returns (13)
unfoldable pub plain : List ℕ → List ℕ
plain [] = []
plain (b ∷ bs) = cond (b == 13) (plain bs) (b ∷ plain bs)

abbrev pub no_values : List Float
no_values = replicate 16 (fin false 0 (pos 0))

-- no centre yet
abbrev pub no_centres : Centres
no_centres = record { values = no_values; count = 0 }

-- the line with n lines above it is no centre, or is a centre too many: no centre is kept
abbrev pub faulty_centres : ℕ → Bool → Result Centres CentresError
faulty_centres n true = Err (CentresError.TooMany n)
faulty_centres n false = Err (CentresError.NotDecimal n)

-- one centre more, for which there may be no place
unfoldable pub with_centre : Centres → ℕ → Float → Result Centres CentresError
with_centre c n x =
    cond (nat_lt c.count 16) (Ok (record { values = slice_set c.values c.count x; count = c.count + 1 })) (faulty_centres n true)

abbrev pub with_number : Centres → ℕ → Option Decimal → Result Centres CentresError
with_number c n (Some d) = with_centre c n (value_of d)
with_number c n None = faulty_centres n false

-- what a line says: nothing where it is empty or a comment (35), else a number
abbrev pub with_line : Centres → ℕ → List ℕ → Result Centres CentresError
with_line c n [] = Ok c
with_line c n (b ∷ bs) = cond (b == 35) (Ok c) (with_number c n (read_of (b ∷ bs)))

-- the centres after a line with n above it: the first failure stays
abbrev pub after_line : Result Centres CentresError → ℕ → List ℕ → Result Centres CentresError
after_line (Ok c) n line = with_line c n (plain line)
after_line (Err e) n line = Err e

unfoldable pub centres_of : List ℕ → Result Centres CentresError
centres_of text = after_lines after_line (Ok no_centres) 0 (lines_of text)
