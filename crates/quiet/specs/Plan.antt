-- What a plan answers for a minute of the week: questions 18, 19 and 20 in their order, then the first window that holds the minute.
use Rattle.std.specs.Prelude.{ℕ, suc, Bool, cond, not, List, [], ◌∷◌, map, length, take, nat_lt, slice_index_or, Result, Ok, Err, Float}
use Rattle.float.specs.F32.{quotient}
use Rattle.quiet.specs.Limits.{max_windows, week_minutes}
use Rattle.quiet.specs.Window.{edges_ok, step_ok, holds, step_gain}
use Rattle.quiet.specs.declared.plan.Window.{Window}
use Rattle.quiet.specs.declared.plan.Plan.{Plan}
use Rattle.quiet.specs.declared.answer.Gain.{Gain}
use Rattle.quiet.specs.declared.answer.PlanError.{PlanError}

-- the index of the first window that passes a test; how many windows there are where none does
unfoldable pub first_where : (Window → Bool) → List Window → ℕ
first_where test [] = 0
first_where test (v ∷ vs) = cond (test v) 0 (suc (first_where test vs))

-- the gain of window i; 1 past the last
unfoldable pub gain_at : List Window → ℕ → Float
gain_at vs i = slice_index_or (map (λ v. step_gain v.step) vs) i (quotient 1 1)

-- what these windows answer, of which there are at most 64
unfoldable pub windows_answer : List Window → ℕ → Result Gain PlanError
windows_answer vs w =
    let bad_edge = first_where (λ v. not (edges_ok v)) vs in
    let bad_step = first_where (λ v. not (step_ok v)) vs in
    let held = first_where (holds w) vs in
    cond (nat_lt bad_edge (length vs)) (Err (PlanError.BadWindow bad_edge))
    (cond (nat_lt bad_step (length vs)) (Err (PlanError.BadStep bad_step))
    (cond (nat_lt w week_minutes) (Ok (record { window = held; gain = gain_at vs held })) (Err PlanError.BadMinute)))

-- the first `count` windows are the plan; what stands in the places beyond is not looked at
unfoldable pub quiet_gain : Plan → ℕ → Result Gain PlanError
quiet_gain p w = cond (nat_lt max_windows p.count) (Err (PlanError.BadWindow max_windows)) (windows_answer (take p.count p.windows) w)
