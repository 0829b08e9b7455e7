-- One window: what it may hold, which minutes it holds, and how loud they are.
use Rattle.std.specs.Prelude.{ℕ, Bool, cond, ◌&&◌, ◌||◌, pos, nat_le, nat_lt, Float}
use Rattle.std.specs.Float.{binary32}
use Rattle.std.specs.Float.Ieee.{of_int}
use Rattle.float.specs.F32.{◌⊘◌, quotient}
use Rattle.quiet.specs.Limits.{week_minutes, full_step}
use Rattle.quiet.specs.declared.plan.Window.{Window}

-- question 18 of one window: is neither edge above 10,079?
unfoldable pub edges_ok : Window → Bool
edges_ok v = nat_lt v.start week_minutes && nat_lt v.end week_minutes

-- question 19 of one window: is its step not above 100?
unfoldable pub step_ok : Window → Bool
step_ok v = nat_le v.step full_step

-- whether a window holds minute w: from its start on and before its end; with start above end it runs over the week's end, and with start
-- equal to end it holds nothing
unfoldable pub holds : ℕ → Window → Bool
holds w v = cond (nat_le v.start v.end) (nat_le v.start w && nat_lt w v.end) (nat_le v.start w || nat_lt w v.end)

-- a step as a gain: the step as a float, divided by 100, rounded once
unfoldable pub step_gain : ℕ → Float
step_gain step = of_int binary32 (pos step) ⊘ quotient 100 1
