-- A few texts of windows and what they come to, by the definition alone. Assumes nothing.
use Rattle.std.proofs.Common.{◌≡◌, ℕ, zero, suc, ◌*◌, List, [], ◌∷◌, ◌++◌, get_or, Option, Some, None, Result, Ok, Err, refl}
use Rattle.quiet.specs.declared.plan.Window.{Window}
use Rattle.console.specs.declared.plans.Reason.{Reason}
use Rattle.console.specs.declared.plans.BadLine.{BadLine}
use Rattle.console.specs.declared.plans.Planned.{Planned}
use Rattle.console.specs.Decimal.{next_scan, scanned, read_of}
use Rattle.console.specs.Edges.{day_of, edge_of, two_digits, clock_of}
use Rattle.console.specs.Plans.{is_blank, window_of, after_word, after_words, line_of, placed, with_window, no_windows, bad_line}
use Rattle.console.specs.Pieces.{after_lines}
use Rattle.console.specs.Plans.{plan_of, minute_in}

-- what is to be read of a text that has only windows
abbrev held : Result Planned BadLine → Planned
held (Ok p) = p
held (Err e) = no_windows

-- the first window
abbrev first : Result Planned BadLine → Window
first p = get_or (held p).plan.windows 0 (window_of 0 0 0)

-- Mon 22:00 Tue 06:00 30
one-night : first (plan_of (77 ∷ 111 ∷ 110 ∷ 32 ∷ 50 ∷ 50 ∷ 58 ∷ 48 ∷ 48 ∷ 32 ∷ 84 ∷ 117 ∷ 101 ∷ 32 ∷ 48 ∷ 54 ∷ 58 ∷ 48 ∷ 48 ∷ 32 ∷ 51 ∷ 48 ∷ [])) ≡ window_of 1320 1800 30
unfolding plan_of after_lines line_of after_words after_word is_blank placed with_window edge_of day_of two_digits clock_of read_of scanned next_scan
one-night = refl

-- Sun 23:59, a tab, and 360 0: an edge of either form
both-forms : first (plan_of (83 ∷ 117 ∷ 110 ∷ 32 ∷ 50 ∷ 51 ∷ 58 ∷ 53 ∷ 57 ∷ 9 ∷ 51 ∷ 54 ∷ 48 ∷ 32 ∷ 48 ∷ [])) ≡ window_of 10079 360 0
unfolding plan_of after_lines line_of after_words after_word is_blank placed with_window edge_of day_of two_digits clock_of read_of scanned next_scan
both-forms = refl

-- 10080 4294967295 101: read as it stands
limits-unasked : first (plan_of (49 ∷ 48 ∷ 48 ∷ 56 ∷ 48 ∷ 32 ∷ 52 ∷ 50 ∷ 57 ∷ 52 ∷ 57 ∷ 54 ∷ 55 ∷ 50 ∷ 57 ∷ 53 ∷ 32 ∷ 49 ∷ 48 ∷ 49 ∷ [])) ≡ window_of 10080 4294967295 101
unfolding plan_of after_lines line_of after_words after_word is_blank placed with_window edge_of day_of two_digits clock_of read_of scanned next_scan
limits-unasked = refl

-- a comment, a line with a blank and a carriage return, an empty line, and 1 2 3: the window has three lines above it
comment-and-window : get_or (held (plan_of (35 ∷ 120 ∷ 10 ∷ 32 ∷ 13 ∷ 10 ∷ 10 ∷ 32 ∷ 49 ∷ 32 ∷ 50 ∷ 32 ∷ 51 ∷ []))).above 0 0 ≡ 3
unfolding plan_of after_lines line_of after_words after_word is_blank placed with_window edge_of day_of two_digits clock_of read_of scanned next_scan
comment-and-window = refl

-- 1 2 3, then x, then 4: the second line is no window, and that stays
second-line : plan_of (49 ∷ 32 ∷ 50 ∷ 32 ∷ 51 ∷ 10 ∷ 120 ∷ 10 ∷ 52 ∷ []) ≡ Err (bad_line 1 Reason.NoEdge)
unfolding plan_of after_lines line_of after_words after_word is_blank placed with_window edge_of day_of two_digits clock_of read_of scanned next_scan
second-line = refl

-- mon 22:00 0 1: a day starts with a capital
no-such-day : plan_of (109 ∷ 111 ∷ 110 ∷ 32 ∷ 50 ∷ 50 ∷ 58 ∷ 48 ∷ 48 ∷ 32 ∷ 48 ∷ 32 ∷ 49 ∷ []) ≡ Err (bad_line 0 Reason.NoEdge)
unfolding plan_of after_lines line_of after_words after_word is_blank placed with_window edge_of day_of two_digits clock_of read_of scanned next_scan
no-such-day = refl

-- Mon 24:00 0 1
no-such-clock : plan_of (77 ∷ 111 ∷ 110 ∷ 32 ∷ 50 ∷ 52 ∷ 58 ∷ 48 ∷ 48 ∷ 32 ∷ 48 ∷ 32 ∷ 49 ∷ []) ≡ Err (bad_line 0 Reason.NoClock)
unfolding plan_of after_lines line_of after_words after_word is_blank placed with_window edge_of day_of two_digits clock_of read_of scanned next_scan
no-such-clock = refl

-- Mon 6:00 0 1: hours have two digits
one-digit-clock : plan_of (77 ∷ 111 ∷ 110 ∷ 32 ∷ 54 ∷ 58 ∷ 48 ∷ 48 ∷ 32 ∷ 48 ∷ 32 ∷ 49 ∷ []) ≡ Err (bad_line 0 Reason.NoClock)
unfolding plan_of after_lines line_of after_words after_word is_blank placed with_window edge_of day_of two_digits clock_of read_of scanned next_scan
one-digit-clock = refl

-- 0 1 x
no_step : plan_of (48 ∷ 32 ∷ 49 ∷ 32 ∷ 120 ∷ []) ≡ Err (bad_line 0 Reason.NoStep)
unfolding plan_of after_lines line_of after_words after_word is_blank placed with_window edge_of day_of two_digits clock_of read_of scanned next_scan
no_step = refl

-- Mon 22:00 Tue: the clock and the step are missing
too_few : plan_of (77 ∷ 111 ∷ 110 ∷ 32 ∷ 50 ∷ 50 ∷ 58 ∷ 48 ∷ 48 ∷ 32 ∷ 84 ∷ 117 ∷ 101 ∷ []) ≡ Err (bad_line 0 Reason.TooFew)
unfolding plan_of after_lines line_of after_words after_word is_blank placed with_window edge_of day_of two_digits clock_of read_of scanned next_scan
too_few = refl

-- 0 1 2 3
too_many : plan_of (48 ∷ 32 ∷ 49 ∷ 32 ∷ 50 ∷ 32 ∷ 51 ∷ []) ≡ Err (bad_line 0 Reason.TooMany)
unfolding plan_of after_lines line_of after_words after_word is_blank placed with_window edge_of day_of two_digits clock_of read_of scanned next_scan
too_many = refl

-- an empty text has no window
empty : plan_of [] ≡ Ok no_windows
unfolding plan_of after_lines line_of after_words after_word is_blank placed with_window edge_of day_of two_digits clock_of read_of scanned next_scan
empty = refl

-- a text n times
unfoldable times : ℕ → List ℕ → List ℕ
times zero text = []
times (suc n) text = text ++ times n text

-- 66 lines of 0 1 2: as many windows as there are places, and one more
one-too-many : (held (plan_of (times 66 (48 ∷ 32 ∷ 49 ∷ 32 ∷ 50 ∷ 10 ∷ [])))).plan.count ≡ 65
unfolding plan_of after_lines line_of after_words after_word is_blank placed with_window edge_of day_of two_digits clock_of read_of scanned next_scan times
one-too-many = refl

-- Sun 23:59, the last minute of the week
a-minute : minute_in (line_of (83 ∷ 117 ∷ 110 ∷ 32 ∷ 50 ∷ 51 ∷ 58 ∷ 53 ∷ 57 ∷ [])) ≡ Some 10079
unfolding plan_of after_lines line_of after_words after_word is_blank placed with_window edge_of day_of two_digits clock_of read_of scanned next_scan
a-minute = refl

-- a number
a-number : minute_in (line_of (49 ∷ 51 ∷ 50 ∷ 48 ∷ [])) ≡ Some 1320
unfolding plan_of after_lines line_of after_words after_word is_blank placed with_window edge_of day_of two_digits clock_of read_of scanned next_scan
a-number = refl

-- Mon 22:00 1: more than a minute
two_edges : minute_in (line_of (77 ∷ 111 ∷ 110 ∷ 32 ∷ 50 ∷ 50 ∷ 58 ∷ 48 ∷ 48 ∷ 32 ∷ 49 ∷ [])) ≡ None
unfolding plan_of after_lines line_of after_words after_word is_blank placed with_window edge_of day_of two_digits clock_of read_of scanned next_scan
two_edges = refl

-- ---- the seven days, each with its first minute by the hours of the week
abbrev midnight : List ℕ → Option ℕ
midnight day = minute_in (line_of (day ++ (32 ∷ 48 ∷ 48 ∷ 58 ∷ 48 ∷ 48 ∷ [])))

record SevenDays : Type 0 where
  monday : midnight (77 ∷ 111 ∷ 110 ∷ []) ≡ Some 0
  tuesday : midnight (84 ∷ 117 ∷ 101 ∷ []) ≡ Some (24 * 60)
  wednesday : midnight (87 ∷ 101 ∷ 100 ∷ []) ≡ Some (48 * 60)
  thursday : midnight (84 ∷ 104 ∷ 117 ∷ []) ≡ Some (72 * 60)
  friday : midnight (70 ∷ 114 ∷ 105 ∷ []) ≡ Some (96 * 60)
  saturday : midnight (83 ∷ 97 ∷ 116 ∷ []) ≡ Some (120 * 60)
  sunday : midnight (83 ∷ 117 ∷ 110 ∷ []) ≡ Some (144 * 60)

seven-days : SevenDays
unfolding line_of after_words after_word is_blank edge_of day_of two_digits clock_of read_of scanned next_scan
seven-days = record {
  monday = refl;
  tuesday = refl;
  wednesday = refl;
  thursday = refl;
  friday = refl;
  saturday = refl;
  sunday = refl;
}
