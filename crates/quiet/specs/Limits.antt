-- The limits of a plan.
use Rattle.std.specs.Prelude.{ℕ}

abbrev pub max_windows : ℕ
max_windows = 64

-- the minutes of the week are 0 to 10,079
abbrev pub week_minutes : ℕ
week_minutes = 10080

-- loudness steps are 0 to 100
abbrev pub full_step : ℕ
full_step = 100
