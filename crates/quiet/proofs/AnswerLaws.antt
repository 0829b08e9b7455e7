-- What windows answer, by what is found when they are looked through.
use Rattle.std.proofs.Common.{◌≡◌, ℕ, zero, suc, ◌<◌, ◌≤◌, not, List, [], ◌∷◌, map, length, get_or, Option, Ok, Err, Some, None, sym, refl, ◌∙◌, arith, le-ltb, lt-ltb}
use Rattle.std.specs.List.{position}
use lib.ListN.{get_or-eq_default, length-map}
use Rattle.float.specs.F32.{quotient}
use Rattle.quiet.specs.Limits.{week_minutes}
use Rattle.quiet.specs.Window.{edges_ok, step_ok, holds, step_gain}
use Rattle.quiet.specs.Plan.{first_where, gain_at, windows_answer}
use Rattle.quiet.specs.declared.plan.Window.{Window}
use Rattle.quiet.specs.declared.answer.PlanError.{PlanError}
use Rattle.quiet.proofs.SearchLaws.{first_found, first-none}

-- the gain of a window that is there
pub gain-at : (l : List Window) (i : ℕ) (d : Window) → i < length l → gain_at l i ≡ step_gain (get_or l i d).step
unfolding gain_at
gain-at [] i d h = absurd (omega arith)
gain-at (v ∷ l) zero d h = refl
gain-at (v ∷ l) (suc i) d h = gain-at l i d (omega arith)

pub gain-beyond : (l : List Window) (i : ℕ) → length l ≤ i → gain_at l i ≡ quotient 1 1
unfolding gain_at
gain-beyond l i h = get_or-eq_default (map (λ v. step_gain v.step) l) (quotient 1 1) (rw (length-map l (λ v. step_gain v.step)) h)

-- an edge that is wrong is said first, whatever the steps and the minute are
pub edge_first : (vs : List Window) (w i : ℕ) → position (λ v. not (edges_ok v)) vs ≡ Some i → Err (PlanError.BadWindow i) ≡ windows_answer vs w
unfolding windows_answer
edge_first vs w i h = let p = first_found (λ v. not (edges_ok v)) vs i h in rw (p.0, lt-ltb i (length vs) p.1)

-- By what the three searches find: the questions in their order.
module _ (vs : List Window) (w : ℕ) (edge step held : Option ℕ) (e : edge ≡ position (λ v. not (edges_ok v)) vs) where
  module _ (a : edge ≡ None) (f : step ≡ position (λ v. not (step_ok v)) vs) where
    abbrev n : ℕ
    n = length vs

    no_edge : first_where (λ v. not (edges_ok v)) vs ≡ n
    no_edge = first-none _ vs (sym e ∙ a)

    pub step-wrong : (i : ℕ) → step ≡ Some i → Err (PlanError.BadStep i) ≡ windows_answer vs w
    unfolding windows_answer
    step-wrong i b =
        let p = first_found (λ v. not (step_ok v)) vs i (sym f ∙ b) in
        rw (no_edge, le-ltb n n (omega arith), p.0, lt-ltb i n p.1)

    module _ (b : step ≡ None) where
      no_step : first_where (λ v. not (step_ok v)) vs ≡ n
      no_step = first-none _ vs (sym f ∙ b)

      pub minute-wrong : week_minutes ≤ w → Err PlanError.BadMinute ≡ windows_answer vs w
      unfolding windows_answer
      minute-wrong h = rw (no_edge, no_step, le-ltb n n (omega arith), le-ltb w week_minutes h)

      module _ (h : w < week_minutes) (g : held ≡ position (holds w) vs) where
        pub window-holds :
            (i : ℕ) (d : Window) → held ≡ Some i → Ok (record { window = i; gain = step_gain (get_or vs i d).step }) ≡ windows_answer vs w
        unfolding windows_answer
        window-holds i d k =
            let p = first_found (holds w) vs i (sym g ∙ k) in
            rw (no_edge, no_step, le-ltb n n (omega arith), lt-ltb w week_minutes h, p.0, gain-at vs i d p.1)

        pub none-holds : held ≡ None → Ok (record { window = n; gain = quotient 1 1 }) ≡ windows_answer vs w
        unfolding windows_answer
        none-holds k =
            let p = first-none (holds w) vs (sym g ∙ k) in
            rw (no_edge, no_step, le-ltb n n (omega arith), lt-ltb w week_minutes h, p, gain-beyond vs n (omega arith))
