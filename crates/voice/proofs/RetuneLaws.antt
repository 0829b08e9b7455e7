-- Laws of a retune: its questions, and what it leaves. Assumes nothing.
use Prim.Native.Nat.{ℕ, zero, suc, ◌+◌, ◌*◌, ◌≤◌, ◌<◌}
use mathlib.Core.Path.{◌≡◌, refl, ap, sym, ◌∙◌}
use mathlib.Core.List.{List, ◌++◌}
use mathlib.Core.Bool.{Bool, true, false}
use mathlib.Core.Logic.{◌⊎◌, inl, inr}
use native.Mathlib.Omega.{arith}
use lib.ListN.{length, take, drop, get_or, length-append, length-take, length-drop, take-append-drop, get_or-append}
use lib.Seq.{length-take-le, drop-drop}
use lib.Ieee.{Float, nan}
use Rattle.voice.specs.Bands.{init_floats, init_lists}
use Rattle.voice.specs.Question.{ask, accepted}
use Rattle.voice.specs.Retuning.{retuned, rate_question, retune_of}
use Rattle.voice.specs.Voice.{list_at, counts_ok, entries_ok, rate_ok, live_ok, centres_finite, rules_of, keeps_rules}
use Rattle.voice.specs.declared.voice.Voice.{Voice}
use Rattle.voice.proofs.Loops.{up_to-as}
use Rattle.voice.proofs.InitLaws.{length-init, centres-at, init-of}
use Rattle.voice.proofs.QuestionLaws.{kept}

-- LAW: a refusal's number is 13 or 11
numbered : (k r : Bool) (q : ℕ) → q ≡ ask k 13 (ask r 11 0) → (q ≡ 0 → ⊥) → (q ≡ 13) ⊎ (q ≡ 11)
unfolding ask
numbered true true q e h = absurd (h e)
numbered true false q e h = inr e
numbered false r q e h = inl e

pub retune-number : (v : Voice) (rate : Float) (q : ℕ) → q ≡ (retune_of v rate).number → (q ≡ 0 → ⊥) → (q ≡ 13) ⊎ (q ≡ 11)
unfolding retune_of rate_question
retune-number v rate q e h = numbered (keeps_rules v) (rate_ok rate) q e h

-- LAW: question 13 first, whatever the rate, and then question 11
pub retune-13 : (v : Voice) (rate : Float) → keeps_rules v ≡ false → (retune_of v rate).number ≡ 13
unfolding retune_of ask
retune-13 v rate h = rw h

pub retune-11 : (v : Voice) (rate : Float) → keeps_rules v ≡ true → rate_ok rate ≡ false → (retune_of v rate).number ≡ 11
unfolding retune_of rate_question ask
retune-11 v rate h r = rw (h, r)

-- LAW: phases, memories and noise number are those that the voice had
state-kept : (q : ℕ) (v : Voice) (rate : Float) → (accepted q (retuned v rate) v).state ≡ v.state
state-kept zero v rate = refl
state-kept (suc q) v rate = refl

pub retune-state : (v : Voice) (rate : Float) → (retune_of v rate).voice.state ≡ v.state
unfolding retune_of
retune-state v rate = state-kept (ask (keeps_rules v) 13 (rate_question rate)) v rate

-- ---- what a retune leaves among the lists, of lists of all their places
module _ (xs : List Float) (long : length xs ≡ 176) (j : ℕ) (rate : Float) where
  abbrev centres : List Float
  centres = drop 160 xs

  front_long : length (take 64 xs) ≡ 64
  front_long = length-take-le 64 xs (omega arith)

  centres-long : length centres ≡ 16
  centres-long = length-drop 160 xs ∙ rw long refl

  -- the three parts
  parts : xs ≡ take 64 xs ++ (take 96 (drop 64 xs) ++ centres)
  parts =
      sym (take-append-drop 64 xs)
      ∙ ap (λ (t : List Float). take 64 xs ++ t) (sym (take-append-drop 96 (drop 64 xs)) ∙ ap (λ (t : List Float). take 96 (drop 64 xs) ++ t) (drop-drop 96 64 xs))

  few : length (take j centres) ≤ 16
  few = omega (arith, centres-long, length-take j centres)

  init-is : init_lists xs j rate ≡ take 64 xs ++ (init_floats (take j centres) rate ++ centres)
  init-is =
      ap (λ (l : List Float). init_lists l j rate) parts
      ∙ init-of (take 64 xs) (take 96 (drop 64 xs)) centres front_long (length-take-le 96 (drop 64 xs) (omega (arith, length-drop 64 xs, long))) centres-long j rate

  -- LAW: the lists of the entries and of the centres stay
  pub front_kept : (n : ℕ) → n < 4 → list_at (init_lists xs j rate) n ≡ list_at xs n
  unfolding list_at
  front_kept n l =
      up_to-as _ _ 16 (λ i k.
      let h : n * 16 + i < length (take 64 xs) = omega (arith, front_long) in
      ap (λ (t : List Float). get_or t (n * 16 + i) nan) init-is
      ∙ get_or-append (take 64 xs) _ nan (n * 16 + i) h
      ∙ sym (ap (λ (t : List Float). get_or t (n * 16 + i) nan) parts ∙ get_or-append (take 64 xs) _ nan (n * 16 + i) h))

  pub centres-kept : list_at (init_lists xs j rate) 10 ≡ list_at xs 10
  centres-kept =
      ap (λ (t : List Float). list_at t 10) init-is
      ∙ centres-at (take 64 xs) (init_floats (take j centres) rate) centres front_long (length-init (take j centres) rate few) centres-long
      ∙ sym (ap (λ (t : List Float). list_at t 10) parts
      ∙ centres-at (take 64 xs) (take 96 (drop 64 xs)) centres front_long (length-take-le 96 (drop 64 xs) (omega (arith, length-drop 64 xs, long))) centres-long)

  pub length-kept : length (init_lists xs j rate) ≡ 176
  length-kept = ap length init-is ∙ rw (length-append, length-append, front_long, length-init (take j centres) rate few, centres-long) refl

-- LAW: a retuned voice keeps the voice rules
pub retuned-rules : (v : Voice) (rate : Float) → length v.lists ≡ 176 → keeps_rules v ≡ true → rate_ok rate ≡ true → keeps_rules (retuned v rate) ≡ true
unfolding rules_of counts_ok entries_ok live_ok centres_finite
retuned-rules v rate long h r =
    let a = kept v h in
    let xs = v.lists in
    let j = v.set.j in
    rw (a.counts, front_kept xs long j rate 0 (omega arith), front_kept xs long j rate 1 (omega arith), centres-kept xs long j rate, a.entries, r, a.live, a.centres) a.phases
