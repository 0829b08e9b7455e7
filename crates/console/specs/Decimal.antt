-- Decimal numbers as text, byte after byte.
use Rattle.std.specs.Prelude.{ℕ, ◌+◌, ◌-◌, ◌*◌, Bool, true, false, cond, List, [], ◌∷◌, length, drop, Option, Some, None, ◌==◌, nat_le, nat_lt, slice_index}
use Rattle.std.specs.Option.{option_and_then}
use Rattle.console.specs.declared.decimal.Decimal.{Decimal}
use Rattle.console.specs.declared.decimal.Scan.{Scan}

abbrev pub start_scan : Scan
start_scan = record { digits = 0; places = 0; point = false; some = false }

-- a point; a second one is no part of a number
abbrev pub pointed : Scan → Option Scan
pointed s = cond s.point None (Some (record { digits = s.digits; places = s.places; point = true; some = s.some }))

-- a digit d, whether after the point; there it is one place more, and a sixteenth place is no part of a number
abbrev pub digit_scan : Scan → ℕ → Bool → Option Scan
digit_scan s d true =
    cond (nat_le 15 s.places) None (Some (record { digits = s.digits * 10 + d; places = s.places + 1; point = true; some = true }))
digit_scan s d false = Some (record { digits = s.digits * 10 + d; places = s.places; point = false; some = true })

-- a digit d of at most 15
abbrev pub with_digit : Scan → ℕ → Option Scan
with_digit s d = cond (nat_le 100000000000000 s.digits) None (digit_scan s d s.point)

-- one byte more: a point (46), a digit (48 to 57), or anything else, which is no part of a number
unfoldable pub next_scan : Scan → ℕ → Option Scan
next_scan s b =
    cond (b == 46) (pointed s)
    (cond (nat_lt b 48) None
    (cond (nat_lt 57 b) None
    (with_digit s (b - 48))))

-- all bytes: no byte makes a number of text that is none
unfoldable pub scanned : Option Scan → List ℕ → Option Scan
scanned s [] = s
scanned s (b ∷ bs) = scanned (option_and_then (λ t. next_scan t b) s) bs

abbrev pub scan_of : List ℕ → Option Scan
scan_of text = scanned (Some start_scan) text

-- a minus sign (45) in front
abbrev pub minus_first : List ℕ → Bool
minus_first text = cond (nat_lt 0 (length text)) (slice_index text 0 == 45) false

-- a number, where there is a digit
abbrev pub concluded : Bool → Scan → Option Decimal
concluded negative s = cond s.some (Some (record { negative = negative; digits = s.digits; places = s.places })) None

unfoldable pub read_of : List ℕ → Option Decimal
read_of text =
    cond (minus_first text) (option_and_then (concluded true) (scan_of (drop 1 text)))
    (option_and_then (concluded false) (scan_of (drop 0 text)))

-- a whole number has no sign and no places, and is below 2^32
abbrev pub whole_of : Decimal → Option ℕ
whole_of d =
    cond d.negative None
    (cond (nat_lt 0 d.places) None
    (cond (nat_lt 4294967295 d.digits) None (Some d.digits)))

abbrev pub found_number : Option Decimal → Option ℕ
found_number d = option_and_then whole_of d
