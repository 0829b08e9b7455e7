-- The meaning of a text of quiet windows: a window a line, as START END STEP, where an edge is a minute of the week or a day and a clock.
-- A line without a word says nothing, and neither does one whose first word starts with #.
use Rattle.std.specs.Prelude.{ℕ, ◌+◌, Bool, cond, ◌||◌, List, [], ◌∷◌, replicate, Option, Some, None, Result, Ok, Err, ◌==◌, nat_lt, slice_set}
use Rattle.console.specs.declared.edges.Edge.{Edge}
use Rattle.quiet.specs.declared.plan.Window.{Window}
use Rattle.quiet.specs.declared.plan.Plan.{Plan}
use Rattle.console.specs.declared.plans.Reason.{Reason}
use Rattle.console.specs.declared.plans.BadLine.{BadLine}
use Rattle.console.specs.declared.plans.Line.{Line}
use Rattle.console.specs.declared.plans.Planned.{Planned}
use Rattle.console.specs.Decimal.{read_of, found_number}
use Rattle.console.specs.Edges.{edge_of, clock_of}
use Rattle.console.specs.Pieces.{pieces_of, lines_of, after_lines}

-- between words stand spaces (32), tabs (9) and carriage returns (13)
unfoldable pub is_blank : ℕ → Bool
is_blank b = b == 32 || (b == 9 || b == 13)

abbrev pub window_of : ℕ → ℕ → ℕ → Window
window_of start end step = record { start = start; end = end; step = step }

-- a line's first word that is no comment: its start, or the day of it
abbrev pub started : Option Edge → Result Line Reason
started (Some (Edge.Minute m)) = Ok (Line.Started m)
started (Some (Edge.OnDay d)) = Ok (Line.FirstDay d)
started None = Err Reason.NoEdge

-- the word after the start: its end, or the day of it
abbrev pub ended : ℕ → Option Edge → Result Line Reason
ended start (Some (Edge.Minute m)) = Ok (Line.Ended start m)
ended start (Some (Edge.OnDay d)) = Ok (Line.SecondDay start d)
ended start None = Err Reason.NoEdge

-- the word after a day
abbrev pub started_at : Option ℕ → Result Line Reason
started_at (Some m) = Ok (Line.Started m)
started_at None = Err Reason.NoClock

abbrev pub ended_at : ℕ → Option ℕ → Result Line Reason
ended_at start (Some m) = Ok (Line.Ended start m)
ended_at start None = Err Reason.NoClock

-- the word after the end
abbrev pub stepped : ℕ → ℕ → Option ℕ → Result Line Reason
stepped start end (Some n) = Ok (Line.Complete (window_of start end n))
stepped start end None = Err Reason.NoStep

-- the first word: a comment starts with # (35)
abbrev pub first_word : List ℕ → Result Line Reason
first_word [] = Ok Line.Empty
first_word (b ∷ w) = cond (b == 35) (Ok Line.Comment) (started (edge_of (b ∷ w)))

-- one word more
abbrev pub next_word : Line → List ℕ → Result Line Reason
next_word Line.Empty w = first_word w
next_word Line.Comment w = Ok Line.Comment
next_word (Line.FirstDay d) w = started_at (clock_of d w)
next_word (Line.Started start) w = ended start (edge_of w)
next_word (Line.SecondDay start d) w = ended_at start (clock_of d w)
next_word (Line.Ended start end) w = stepped start end (found_number (read_of w))
next_word (Line.Complete v) w = Err Reason.TooMany

-- a piece between two blanks: a word, or nothing
unfoldable pub after_word : Line → List ℕ → Result Line Reason
after_word l [] = Ok l
after_word l (b ∷ w) = next_word l (b ∷ w)

-- a piece after those that came to a line so far: where that is no window it stays so, whatever follows
abbrev pub after_piece : Result Line Reason → List ℕ → Result Line Reason
after_piece (Ok l) w = after_word l w
after_piece (Err r) w = Err r

unfoldable pub after_words : Result Line Reason → List (List ℕ) → Result Line Reason
after_words l [] = l
after_words l (w ∷ ws) = after_words (after_piece l w) ws

-- what a line says
unfoldable pub line_of : List ℕ → Result Line Reason
line_of line = after_words (Ok Line.Empty) (pieces_of is_blank line)

abbrev pub no_windows : Planned
no_windows = record { plan = record { count = 0; windows = replicate 64 (window_of 0 0 0) }; above = replicate 65 0 }

-- a plan with a window more; of a sixty-fifth only the count is kept
unfoldable pub placed : Plan → Window → Plan
placed p v = record { count = p.count + 1; windows = cond (nat_lt p.count 64) (slice_set p.windows p.count v) p.windows }

-- the window of a line with n lines above it. 65 windows stand for any number of more than 64
unfoldable pub with_window : Planned → ℕ → Window → Planned
with_window p n v = cond (nat_lt 64 p.plan.count) p (record { plan = placed p.plan v; above = slice_set p.above p.plan.count n })

-- the line with n lines above it is no window
abbrev pub bad_line : ℕ → Reason → BadLine
bad_line n r = record { above = n; reason = r }

-- the windows that are left where a line is no bad one
abbrev pub left_by : Result Unit BadLine → Planned → Result Planned BadLine
left_by (Ok u) p = Ok p
left_by (Err e) p = Err e

-- what a line does to the windows above it: one that ends before its step has too few words
abbrev pub with_line : Planned → ℕ → Result Line Reason → Result Planned BadLine
with_line p n (Ok Line.Empty) = Ok p
with_line p n (Ok Line.Comment) = Ok p
with_line p n (Ok (Line.FirstDay d)) = Err (bad_line n Reason.TooFew)
with_line p n (Ok (Line.Started start)) = Err (bad_line n Reason.TooFew)
with_line p n (Ok (Line.SecondDay start d)) = Err (bad_line n Reason.TooFew)
with_line p n (Ok (Line.Ended start end)) = Err (bad_line n Reason.TooFew)
with_line p n (Ok (Line.Complete v)) = Ok (with_window p n v)
with_line p n (Err r) = Err (bad_line n r)

-- the first bad line stays, and no window is kept
abbrev pub after_line : Result Planned BadLine → ℕ → List ℕ → Result Planned BadLine
after_line (Ok p) n line = with_line p n (line_of line)
after_line (Err e) n line = Err e

-- the windows that a text holds, or its first line that is none
unfoldable pub plan_of : List ℕ → Result Planned BadLine
plan_of text = after_lines after_line (Ok no_windows) 0 (lines_of text)

-- the minute of the week that a text names: what stands for the first edge of a line, alone
abbrev pub minute_in : Result Line Reason → Option ℕ
minute_in (Ok Line.Empty) = None
minute_in (Ok Line.Comment) = None
minute_in (Ok (Line.FirstDay d)) = None
minute_in (Ok (Line.Started m)) = Some m
minute_in (Ok (Line.SecondDay start d)) = None
minute_in (Ok (Line.Ended start end)) = None
minute_in (Ok (Line.Complete v)) = None
minute_in (Err r) = None
