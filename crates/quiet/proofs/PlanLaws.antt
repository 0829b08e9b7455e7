-- What a plan answers, said with the card's numbers and without its definition's words: by what holds of all windows, of one, and of those
-- before it. Assumes nothing.
use Rattle.std.proofs.Common.{◌≡◌, ℕ, ◌<◌, ◌≤◌, Bool, true, false, cond, not, T, eqb, ltb, ◌⊎◌, List, length, get_or, take, Result, Ok, Err, pos, sym, refl, ap, ◌∙◌, subst, inl, inr, le_of_eq, arith, nltb→le, le-ltb, lt-ltb}
use lib.Ieee.{Float, binary32, fits, of_int, le, round}
use lib.Ieee.Fits.{round-fits, div-fits}
use Rattle.float.specs.F32.{quotient}
use Rattle.float.proofs.Bounds.{le-or-lt}
use Rattle.wire.specs.Parse.{Refusal}
use Rattle.quiet.specs.Limits.{max_windows, week_minutes, full_step}
use Rattle.quiet.specs.Window.{edges_ok, step_ok, holds, step_gain}
use Rattle.quiet.specs.Plan.{first_where, gain_at, windows_answer, quiet_gain}
use Rattle.quiet.specs.Answer.{plan_refusal, gain_of}
use Rattle.quiet.specs.declared.plan.Window.{Window}
use Rattle.quiet.specs.declared.plan.Plan.{Plan}
use Rattle.quiet.specs.declared.answer.Gain.{Gain}
use Rattle.quiet.specs.declared.answer.PlanError.{PlanError}
use Rattle.quiet.proofs.SearchLaws.{first-is, first-is-none, first-is-some, none_passes}
use Rattle.quiet.proofs.AnswerLaws.{gain-at, gain-beyond}
use Rattle.quiet.proofs.WindowLaws.{WrongEdge, RightEdges, wrong-edge, right-edges, wrong-step, right-step, step_right}
use Rattle.quiet.proofs.GainLaws.{gain-range}

-- the windows that a plan holds, and one of them
abbrev pub windows_of : Plan → List Window
windows_of p = take p.count p.windows

abbrev pub blank : Window
blank = record { start = 0; end = 0; step = 0 }

abbrev pub window_at : Plan → ℕ → Window
window_at p i = get_or (windows_of p) i blank

abbrev pub number_of : Plan → ℕ → ℕ
number_of p w = (plan_refusal (quiet_gain p w)).number

-- LAW: what stands past the count changes no answer
pub past-count : (p q : Plan) (w : ℕ) → p.count ≡ q.count → windows_of p ≡ windows_of q → quiet_gain p w ≡ quiet_gain q w
unfolding quiet_gain
past-count p q w e f = rw (f, e)

-- LAW: 18 for more than 64 windows, whatever they hold and whatever the minute
pub too_many : (p : Plan) (w : ℕ) → 64 < p.count → quiet_gain p w ≡ Err (PlanError.BadWindow 64)
unfolding quiet_gain
too_many p w h = rw (lt-ltb max_windows p.count h)

module _ (p : Plan) (w : ℕ) where
  number : (a : Result Gain PlanError) → quiet_gain p w ≡ a → number_of p w ≡ (plan_refusal a).number
  number a e = ap (λ (a : Result Gain PlanError). (plan_refusal a).number) e

  abbrev bad_edge : ℕ
  bad_edge = first_where (λ v. not (edges_ok v)) (windows_of p)

  abbrev bad_step : ℕ
  bad_step = first_where (λ v. not (step_ok v)) (windows_of p)

  abbrev held : ℕ
  held = first_where (holds w) (windows_of p)

  abbrev n : ℕ
  n = length (windows_of p)

  module _ (few : p.count ≤ 64) where
    of-few : quiet_gain p w ≡ windows_answer (windows_of p) w
    unfolding quiet_gain
    of-few = rw (le-ltb max_windows p.count few)

    edge-first : bad_edge < n → quiet_gain p w ≡ Err (PlanError.BadWindow bad_edge)
    unfolding windows_answer
    edge-first h = of-few ∙ rw (lt-ltb bad_edge n h)

    -- LAW: the first window with an edge above 10,079 is named by 18, whatever else is wrong
    pub edge-named :
        (i : ℕ) → i < n → WrongEdge (window_at p i) → ((j : ℕ) → j < i → RightEdges (window_at p j))
        → quiet_gain p w ≡ Err (PlanError.BadWindow i)
    edge-named i h t b =
        let found = first-is (λ v. not (edges_ok v)) blank (windows_of p) i h (ap not (wrong-edge (window_at p i) t))
        (λ j m. ap not (right-edges (window_at p j) (b j m))) in
        edge-first (rw found h) ∙ ap (λ (k : ℕ). Err (PlanError.BadWindow k)) found

  -- LAW: 18 for any edge above 10,079, also of a plan of more than 64 windows
  pub edge-18 : (i : ℕ) → i < n → WrongEdge (window_at p i) → number_of p w ≡ 18
  edge-18 i h t = go (le-or-lt p.count 64)
    where
      go : (p.count ≤ 64) ⊎ (64 < p.count) → number_of p w ≡ 18
      go (inl f) =
          number _ (edge-first f (first-is-some (λ v. not (edges_ok v)) blank (windows_of p) i h (ap not (wrong-edge (window_at p i) t))))
      go (inr m) = number _ (too_many p w m)

  -- of at most 64 windows, with no edge above 10,079
  module _ (few : p.count ≤ 64) (edges : (i : ℕ) → i < n → RightEdges (window_at p i)) where
    no_edge : n ≤ bad_edge
    no_edge =
        le_of_eq
        (sym (first-is-none (λ v. not (edges_ok v)) blank (windows_of p) (λ i m. ap not (right-edges (window_at p i) (edges i m)))))

    step-first : bad_step < n → quiet_gain p w ≡ Err (PlanError.BadStep bad_step)
    unfolding windows_answer
    step-first h = of-few few ∙ rw (le-ltb bad_edge n no_edge, lt-ltb bad_step n h)

    -- LAW: the first window with a step above 100 is named by 19, whatever the minute
    pub step-named :
        (i : ℕ) → i < n → 100 < (window_at p i).step → ((j : ℕ) → j < i → (window_at p j).step ≤ 100)
        → quiet_gain p w ≡ Err (PlanError.BadStep i)
    step-named i h t b =
        let found = first-is (λ v. not (step_ok v)) blank (windows_of p) i h (ap not (wrong-step (window_at p i) t))
        (λ j m. ap not (right-step (window_at p j) (b j m))) in
        step-first (rw found h) ∙ ap (λ (k : ℕ). Err (PlanError.BadStep k)) found

    -- LAW: 19 for any step above 100
    pub step-19 : (i : ℕ) → i < n → 100 < (window_at p i).step → number_of p w ≡ 19
    step-19 i h t =
        number _ (step-first (first-is-some (λ v. not (step_ok v)) blank (windows_of p) i h (ap not (wrong-step (window_at p i) t))))

    -- and no step above 100
    module _ (steps : (i : ℕ) → i < n → (window_at p i).step ≤ 100) where
      no_step : n ≤ bad_step
      no_step =
          le_of_eq
          (sym (first-is-none (λ v. not (step_ok v)) blank (windows_of p) (λ i m. ap not (right-step (window_at p i) (steps i m)))))

      minute-first : week_minutes ≤ w → quiet_gain p w ≡ Err PlanError.BadMinute
      unfolding windows_answer
      minute-first h = of-few few ∙ rw (le-ltb bad_edge n no_edge, le-ltb bad_step n no_step, le-ltb w week_minutes h)

      -- LAW: 20 for a minute above 10,079
      pub minute-20 : 10079 < w → number_of p w ≡ 20
      minute-20 h = number _ (minute-first (omega arith))

      module _ (h : w ≤ 10079) where
        gain-first : quiet_gain p w ≡ Ok (record { window = held; gain = gain_at (windows_of p) held })
        unfolding windows_answer
        gain-first = of-few few ∙ rw (le-ltb bad_edge n no_edge, le-ltb bad_step n no_step, lt-ltb w week_minutes (omega arith))

        -- LAW: the first window that holds the minute gives its step divided by 100
        pub first_holds :
            (i : ℕ) → i < n → holds w (window_at p i) ≡ true → ((j : ℕ) → j < i → holds w (window_at p j) ≡ false)
            → quiet_gain p w ≡ Ok (record { window = i; gain = step_gain (window_at p i).step })
        first_holds i m t b =
            gain-first
            ∙ (ap (λ (k : ℕ). Ok (record { window = k; gain = gain_at (windows_of p) k })) (first-is (holds w) blank (windows_of p) i m t b)
            ∙ ap (λ (g : Float). Ok (record { window = i; gain = g })) (gain-at (windows_of p) i blank m))

        -- LAW: with no such window the gain is 1, and the answer names as many windows as there are
        pub none-holds : ((j : ℕ) → j < n → holds w (window_at p j) ≡ false) → quiet_gain p w ≡ Ok (record { window = n; gain = quotient 1 1 })
        none-holds b =
            gain-first
            ∙ (ap (λ (k : ℕ). Ok (record { window = k; gain = gain_at (windows_of p) k })) (first-is-none (holds w) blank (windows_of p) b)
            ∙ ap (λ (g : Float). Ok (record { window = n; gain = g })) (gain-beyond (windows_of p) n (omega arith)))

-- ---- the answer's gain
abbrev pub InRange : Float → Type 0
InRange g = (le (quotient 0 1) g ≡ true) × (le g (quotient 1 1) ≡ true)

one-in-range : InRange (quotient 1 1)
unfolding le round
one-in-range = (refl, refl)

-- What holds of 1, and of the gain of any window with a right step, holds of every answer's gain.
module _ (P : Float → Type 0) (one : P (quotient 1 1)) (step : (n : ℕ) → n ≤ full_step → P (step_gain n)) where
  -- by the tests of the definition: e and s say whether an edge or a step is wrong, m whether there is such a minute
  by_tests :
      (e s m : Bool) (i j k : ℕ) (g : Float) → (s ≡ false → P g)
      → P
      (gain_of
      (cond e (Err (PlanError.BadWindow i))
      (cond s (Err (PlanError.BadStep j)) (cond m (Ok (record { window = k; gain = g })) (Err PlanError.BadMinute)))))
  by_tests true s m i j k g h = one
  by_tests false true m i j k g h = one
  by_tests false false true i j k g h = h refl
  by_tests false false false i j k g h = one

  of-window :
      (vs : List Window) (i : ℕ) → length vs ≤ first_where (λ v. not (step_ok v)) vs → (length vs ≤ i) ⊎ (i < length vs)
      → P (gain_at vs i)
  of-window vs i right (inl h) = rw (gain-beyond vs i h) one
  of-window vs i right (inr h) =
      rw (gain-at vs i blank h) (step (get_or vs i blank).step (step_right _ (none_passes (λ v. not (step_ok v)) blank vs i right h)))

  of-windows : (vs : List Window) (w : ℕ) → P (gain_of (windows_answer vs w))
  unfolding windows_answer
  of-windows vs w =
      let bad_edge = first_where (λ v. not (edges_ok v)) vs in
      let bad_step = first_where (λ v. not (step_ok v)) vs in
      let held = first_where (holds w) vs in
      by_tests (ltb bad_edge (length vs)) (ltb bad_step (length vs)) (ltb w week_minutes) bad_edge bad_step held (gain_at vs held)
      (λ e. of-window vs held (nltb→le bad_step (length vs) (subst (λ (b : Bool). T (not b)) (sym e) tt)) (le-or-lt (length vs) held))

  of-plan : (p : Plan) (w : ℕ) → P (gain_of (quiet_gain p w))
  unfolding quiet_gain
  of-plan p w = by_count (ltb max_windows p.count) (windows_answer (windows_of p) w) (of-windows (windows_of p) w)
    where
      by_count : (b : Bool) (a : Result Gain PlanError) → P (gain_of a) → P (gain_of (cond b (Err (PlanError.BadWindow max_windows)) a))
      by_count true a h = one
      by_count false a h = h

-- LAW: every answer's gain is from 0 to 1, a refusal's too
pub gain-in-range : (p : Plan) (w : ℕ) → InRange (gain_of (quiet_gain p w))
gain-in-range p w = of-plan InRange one-in-range gain-range p w

-- LAW: and is an f32 value
pub gain-fits : (p : Plan) (w : ℕ) → T (fits binary32 (gain_of (quiet_gain p w)))
unfolding step_gain
gain-fits p w =
    of-plan (λ g. T (fits binary32 g)) (round-fits binary32 false 1 1)
    (λ n h. div-fits binary32 (of_int binary32 (pos n)) (quotient 100 1)) p w

-- LAW: a refusal's is 1, the loudness of a pole without a plan
pub refused_full : (a : Result Gain PlanError) → ((plan_refusal a).number ≡ 0 → ⊥) → gain_of a ≡ quotient 1 1
refused_full (Ok g) n = absurd (n refl)
refused_full (Err (PlanError.BadWindow i)) n = refl
refused_full (Err (PlanError.BadStep i)) n = refl
refused_full (Err PlanError.BadMinute) n = refl

-- ---- the answers apart
abbrev answer_of : Refusal → Float → Result Gain PlanError
answer_of r g =
    cond (eqb r.number 0) (Ok (record { window = r.first; gain = g }))
    (cond (eqb r.number 18) (Err (PlanError.BadWindow r.first))
    (cond (eqb r.number 19) (Err (PlanError.BadStep r.first)) (Err PlanError.BadMinute)))

answer_back : (a : Result Gain PlanError) → answer_of (plan_refusal a) (gain_of a) ≡ a
answer_back (Ok g) = refl
answer_back (Err (PlanError.BadWindow i)) = refl
answer_back (Err (PlanError.BadStep i)) = refl
answer_back (Err PlanError.BadMinute) = refl

-- LAW: no two answers share number, window and gain
pub plan-answers-apart : (a b : Result Gain PlanError) → plan_refusal a ≡ plan_refusal b → gain_of a ≡ gain_of b → a ≡ b
plan-answers-apart a b e f =
    sym (answer_back a)
    ∙ (ap (λ (r : Refusal). answer_of r (gain_of a)) e ∙ (ap (λ (g : Float). answer_of (plan_refusal b) g) f ∙ answer_back b))
