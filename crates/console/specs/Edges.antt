-- The edges of a planner's windows as words: a minute of the week, or a day and a clock. The week starts on Monday at 00:00, its minute 0.
use Rattle.std.specs.Prelude.{ℕ, ◌+◌, ◌-◌, ◌*◌, Bool, false, cond, ◌&&◌, List, length, Option, Some, None, ◌==◌, nat_le, slice_index}
use Rattle.std.specs.Option.{option_map}
use Rattle.console.specs.declared.edges.Day.{Day}
use Rattle.console.specs.declared.edges.Edge.{Edge}
use Rattle.console.specs.Decimal.{read_of, found_number}

-- the minute at which a day starts
abbrev pub first_minute : Day → ℕ
first_minute Day.Mon = 0
first_minute Day.Tue = 1440
first_minute Day.Wed = 2880
first_minute Day.Thu = 4320
first_minute Day.Fri = 5760
first_minute Day.Sat = 7200
first_minute Day.Sun = 8640

-- a word of these three letters
abbrev pub spells : List ℕ → ℕ → ℕ → ℕ → Bool
spells w a b c = length w == 3 && (slice_index w 0 == a && (slice_index w 1 == b && slice_index w 2 == c))

-- Mon, Tue, Wed, Thu, Fri, Sat, Sun; no other spelling, of the case of letters neither, is a day
unfoldable pub day_of : List ℕ → Option Day
day_of w =
    cond (spells w 77 111 110) (Some Day.Mon)
    (cond (spells w 84 117 101) (Some Day.Tue)
    (cond (spells w 87 101 100) (Some Day.Wed)
    (cond (spells w 84 104 117) (Some Day.Thu)
    (cond (spells w 70 114 105) (Some Day.Fri)
    (cond (spells w 83 97 116) (Some Day.Sat)
    (cond (spells w 83 117 110) (Some Day.Sun) None))))))

abbrev pub number_or : Option ℕ → Option Day → Option Edge
number_or (Some n) d = Some (Edge.Minute n)
number_or None d = option_map Edge.OnDay d

-- the word that an edge starts with: a whole number, which is all of the edge, or a day
unfoldable pub edge_of : List ℕ → Option Edge
edge_of w = number_or (found_number (read_of w)) (day_of w)

-- two digits (48 to 57) as a number
unfoldable pub two_digits : ℕ → ℕ → Option ℕ
two_digits a b = cond (nat_le 48 a && (nat_le a 57 && (nat_le 48 b && nat_le b 57))) (Some ((a - 48) * 10 + (b - 48))) None

abbrev pub hours_of : List ℕ → Option ℕ
hours_of w = two_digits (slice_index w 0) (slice_index w 1)

abbrev pub minutes_of : List ℕ → Option ℕ
minutes_of w = two_digits (slice_index w 3) (slice_index w 4)

abbrev pub at_most : Option ℕ → ℕ → Bool
at_most (Some n) limit = nat_le n limit
at_most None limit = false

-- HH:MM, from 00:00 to 23:59; the colon is 58
abbrev pub is_clock : List ℕ → Bool
is_clock w = length w == 5 && (slice_index w 2 == 58 && (at_most (hours_of w) 23 && at_most (minutes_of w) 59))

-- hours and minutes after the minute at which a day starts
abbrev pub minute_after : ℕ → Option ℕ → Option ℕ → Option ℕ
minute_after from (Some h) (Some m) = Some (from + h * 60 + m)
minute_after from (Some h) None = None
minute_after from None m = None

-- the minute of the week that a day and a clock name
unfoldable pub clock_of : Day → List ℕ → Option ℕ
clock_of d w = cond (is_clock w) (minute_after (first_minute d) (hours_of w) (minutes_of w)) None
