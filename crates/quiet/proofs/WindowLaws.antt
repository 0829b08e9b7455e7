-- Which minutes a window holds and what its numbers may be, said in other ways than the definitions: on the clock of the week, at its
-- edges, and with the card's numbers. Assumes nothing.
use Rattle.std.proofs.Common.{◌≡◌, ℕ, ◌+◌, ◌-◌, ◌<◌, ◌≤◌, true, false, cond, not, ltb, leb, ◌⊎◌, sym, ap, ◌∙◌, inl, inr, true≢false, arith, le-ltb, lt-ltb, le-leb}
use borrow.Author.Tests.{lt-leb}
use Rattle.float.proofs.Bounds.{le-or-lt}
use Rattle.quiet.specs.Limits.{week_minutes, full_step}
use Rattle.quiet.specs.Window.{edges_ok, step_ok, holds}
use Rattle.quiet.specs.declared.plan.Window.{Window}

-- how many minutes go from one minute to another on the clock of the week
abbrev pub minutes_from : ℕ → ℕ → ℕ
minutes_from a b = cond (leb a b) (b - a) (b + week_minutes - a)

module _ (v : Window) (w : ℕ) (l : v.start < week_minutes) (m : v.end < week_minutes) (n : w < week_minutes) where
  abbrev s : ℕ
  s = v.start

  abbrev e : ℕ
  e = v.end

  clock : (s ≤ e) ⊎ (e < s) → (s ≤ w) ⊎ (w < s) → (e ≤ w) ⊎ (w < e) → holds w v ≡ ltb (minutes_from s w) (minutes_from s e)
  unfolding holds
  clock (inl a) (inl b) (inl c) = rw (le-leb s e a, le-leb s w b, le-ltb w e c) (sym (le-ltb (w - s) (e - s) (omega arith)))
  clock (inl a) (inl b) (inr c) = rw (le-leb s e a, le-leb s w b, lt-ltb w e c) (sym (lt-ltb (w - s) (e - s) (omega arith)))
  clock (inl a) (inr b) c = rw (le-leb s e a, lt-leb s w b) (sym (le-ltb (w + week_minutes - s) (e - s) (omega arith)))
  clock (inr a) (inl b) c = rw (lt-leb s e a, le-leb s w b) (sym (lt-ltb (w - s) (e + week_minutes - s) (omega arith)))
  clock (inr a) (inr b) (inl c) =
      rw (lt-leb s e a, lt-leb s w b, le-ltb w e c) (sym (le-ltb (w + week_minutes - s) (e + week_minutes - s) (omega arith)))
  clock (inr a) (inr b) (inr c) =
      rw (lt-leb s e a, lt-leb s w b, lt-ltb w e c) (sym (lt-ltb (w + week_minutes - s) (e + week_minutes - s) (omega arith)))

  -- LAW: a window holds the minutes that come sooner after its start than its end does
  pub holds-clock : holds w v ≡ ltb (minutes_from v.start w) (minutes_from v.start v.end)
  holds-clock = clock (le-or-lt s e) (le-or-lt s w) (le-or-lt e w)

-- a window's start is in it
pub start-held : (v : Window) → (v.start ≡ v.end → ⊥) → holds v.start v ≡ true
unfolding holds
start-held v d = go (le-or-lt v.start v.end)
  where
    go : (v.start ≤ v.end) ⊎ (v.end < v.start) → holds v.start v ≡ true
    go (inl h) = rw (le-leb v.start v.end h, le-leb v.start v.start (omega arith)) (lt-ltb v.start v.end (omega arith))
    go (inr h) = rw (lt-leb v.start v.end h, le-leb v.start v.start (omega arith))

-- its end is not
pub end-not-held : (v : Window) → holds v.end v ≡ false
unfolding holds
end-not-held v = go (le-or-lt v.start v.end)
  where
    go : (v.start ≤ v.end) ⊎ (v.end < v.start) → holds v.end v ≡ false
    go (inl h) = rw (le-leb v.start v.end h) (le-ltb v.end v.end (omega arith))
    go (inr h) = rw (lt-leb v.start v.end h) (le-ltb v.end v.end (omega arith))

-- with start equal to end it holds nothing
pub equal-holds-nothing : (v : Window) (w : ℕ) → v.start ≡ v.end → holds w v ≡ false
unfolding holds
equal-holds-nothing v w q = go (le-or-lt v.start w)
  where
    go : (v.start ≤ w) ⊎ (w < v.start) → holds w v ≡ false
    go (inl h) = rw (le-leb v.start v.end (omega arith), le-leb v.start w h) (le-ltb w v.end (omega arith))
    go (inr h) = rw (le-leb v.start v.end (omega arith), lt-leb v.start w h)

-- over the week's end: it holds the week's last minute, and the first but where it ends there
pub last-minute-held : (v : Window) → v.end < v.start → v.start < week_minutes → holds 10079 v ≡ true
unfolding holds
last-minute-held v h s = rw (lt-leb v.start v.end h, le-leb v.start 10079 (omega arith))

pub first-minute-held : (v : Window) → v.end < v.start → 0 < v.end → holds 0 v ≡ true
unfolding holds
first-minute-held v h e = rw (lt-leb v.start v.end h, lt-leb v.start 0 (omega arith)) (lt-ltb 0 v.end e)

-- ---- the limits, in the card's numbers
abbrev pub WrongEdge : Window → Type 0
WrongEdge v = (10079 < v.start) ⊎ (10079 < v.end)

abbrev pub RightEdges : Window → Type 0
RightEdges v = (v.start ≤ 10079) × (v.end ≤ 10079)

pub wrong-edge : (v : Window) → WrongEdge v → edges_ok v ≡ false
unfolding edges_ok
wrong-edge v (inl h) = rw (le-ltb v.start week_minutes (omega arith))
wrong-edge v (inr h) = go (le-or-lt week_minutes v.start)
  where
    go : (week_minutes ≤ v.start) ⊎ (v.start < week_minutes) → edges_ok v ≡ false
    go (inl a) = rw (le-ltb v.start week_minutes a)
    go (inr a) = rw (lt-ltb v.start week_minutes a) (le-ltb v.end week_minutes (omega arith))

pub right-edges : (v : Window) → RightEdges v → edges_ok v ≡ true
unfolding edges_ok
right-edges v h = rw (lt-ltb v.start week_minutes (omega (arith, h.0))) (lt-ltb v.end week_minutes (omega (arith, h.1)))

pub wrong-step : (v : Window) → 100 < v.step → step_ok v ≡ false
unfolding step_ok
wrong-step v h = lt-leb v.step full_step h

pub right-step : (v : Window) → v.step ≤ 100 → step_ok v ≡ true
unfolding step_ok
right-step v h = le-leb v.step full_step h

-- and the other way round
pub step_right : (v : Window) → not (step_ok v) ≡ false → v.step ≤ 100
step_right v h = go (le-or-lt v.step 100)
  where
    go : (v.step ≤ 100) ⊎ (100 < v.step) → v.step ≤ 100
    go (inl a) = a
    go (inr a) = absurd (true≢false (sym (ap not (wrong-step v a)) ∙ h))
