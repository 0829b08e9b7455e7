-- What an answer yes to a question says.
use mathlib.Core.Path.{◌≡◌, refl}
use mathlib.Core.Bool.{Bool, true, false, ◌&&◌}
use Prim.Native.Nat.{ℕ, suc, ◌*◌, ◌≤◌}
use native.Mathlib.Omega.{arith}
use borrow.Author.Tests.{leb-true, eqb-true}
use lib.Dec.{leb, eqb}
use Rattle.voice.specs.Input.{Call, input_ok, inputs_of, inputs_ok, frequencies_ok}
use Rattle.voice.specs.Voice.{counts_ok, entries_ok, rate_ok, live_ok, centres_finite, phases_ok, rules_of, keeps_rules}
use Rattle.voice.specs.Question.{ask, block_ok, call_question, play_question}
use Rattle.voice.specs.declared.shape.Shape.{Shape}
use Rattle.voice.specs.declared.voice.Voice.{Voice}
use Rattle.voice.proofs.Loops.{both_true}

pub counts-are : (a b c d e : ℕ) → leb a 16 && (leb b 32 && (leb c 16 && (leb d 4 && leb e 16))) ≡ true → (a ≤ 16) × (b ≤ 32) × (c ≤ 16) × (d ≤ 4) × (e ≤ 16)
counts-are a b c d e h =
    let p = both_true (leb a 16) (leb b 32 && (leb c 16 && (leb d 4 && leb e 16))) h in
    let q = both_true (leb b 32) (leb c 16 && (leb d 4 && leb e 16)) p.1 in
    let r = both_true (leb c 16) (leb d 4 && leb e 16) q.1 in
    let s = both_true (leb d 4) (leb e 16) r.1 in
    (leb-true _ _ p.0, leb-true _ _ q.0, leb-true _ _ r.0, leb-true _ _ s.0, leb-true _ _ s.1)

pub block-is : (n channels len : ℕ) → block_ok n channels len ≡ true → (n ≤ 128) × (1 ≤ channels) × (channels ≤ 8) × (len ≡ channels * n)
block-is n channels len h =
    let p = both_true (leb n 128) (leb 1 channels && (leb channels 8 && eqb len (channels * n))) h in
    let q = both_true (leb 1 channels) (leb channels 8 && eqb len (channels * n)) p.1 in
    let r = both_true (leb channels 8) (eqb len (channels * n)) q.1 in
    (leb-true _ _ p.0, leb-true _ _ q.0, leb-true _ _ r.0, eqb-true _ _ r.1)

-- all five inputs
pub record Fitting (b : Shape) (f l0 l1 l2 l3 : ℕ) : Type 0 where
  pub freq : input_ok b.freq b.samples f ≡ true
  pub g0 : input_ok b.g0 b.samples l0 ≡ true
  pub g1 : input_ok b.g1 b.samples l1 ≡ true
  pub g2 : input_ok b.g2 b.samples l2 ≡ true
  pub g3 : input_ok b.g3 b.samples l3 ≡ true

pub inputs-fit : (b : Shape) (f l0 l1 l2 l3 : ℕ) → inputs_of b f l0 l1 l2 l3 ≡ true → Fitting b f l0 l1 l2 l3
inputs-fit b f l0 l1 l2 l3 h =
    let n = b.samples in
    let p = both_true (input_ok b.freq n f) (input_ok b.g0 n l0 && (input_ok b.g1 n l1 && (input_ok b.g2 n l2 && input_ok b.g3 n l3))) h in
    let q = both_true (input_ok b.g0 n l0) (input_ok b.g1 n l1 && (input_ok b.g2 n l2 && input_ok b.g3 n l3)) p.1 in
    let r = both_true (input_ok b.g1 n l1) (input_ok b.g2 n l2 && input_ok b.g3 n l3) q.1 in
    let s = both_true (input_ok b.g2 n l2) (input_ok b.g3 n l3) r.1 in
    record { freq = p.0; g0 = q.0; g1 = r.0; g2 = s.0; g3 = s.1 }

-- a question that is answered yes, and the rest
pub ask-yes : (b : Bool) (n r : ℕ) → ask b (suc n) r ≡ 0 → (b ≡ true) × (r ≡ 0)
unfolding ask
ask-yes true n r h = (refl, h)
ask-yes false n r h = absurd (omega arith)

-- LAW: the number of a question is 13 to 16
numbered : (k a b c : Bool) (q : ℕ) → q ≡ ask k 13 (ask a 14 (ask b 15 (ask c 16 0))) → (q ≡ 0 → ⊥) → (13 ≤ q) × (q ≤ 16)
unfolding ask
numbered true true true true q e h = absurd (h e)
numbered true true true false q e h = (omega arith, omega arith)
numbered true true false c q e h = (omega arith, omega arith)
numbered true false b c q e h = (omega arith, omega arith)
numbered false a b c q e h = (omega arith, omega arith)

pub play-number : (v : Voice) (c : Call) (len q : ℕ) → q ≡ play_question v c len → (q ≡ 0 → ⊥) → (13 ≤ q) × (q ≤ 16)
unfolding play_question call_question
play-number v c len q e h = numbered _ _ _ _ q e h

-- LAW: a call with no question has each answered yes
pub record Accepted (c : Call) (len : ℕ) : Type 0 where
  pub block : block_ok c.shape.samples c.shape.channels len ≡ true
  pub inputs : inputs_ok c ≡ true
  pub frequencies : frequencies_ok c.shape.freq c.freq ≡ true

pub call-accepted : (c : Call) (len : ℕ) → call_question c len ≡ 0 → Accepted c len
unfolding call_question
call-accepted c len h =
    let p = ask-yes _ 13 _ h in
    let r = ask-yes _ 14 _ p.1 in
    record { block = p.0; inputs = r.0; frequencies = (ask-yes _ 15 _ r.1).0 }

-- LAW: a play with no question has each answered yes, and question 13 too
pub play-accepted : (v : Voice) (c : Call) (len : ℕ) → play_question v c len ≡ 0 → (keeps_rules v ≡ true) × Accepted c len
unfolding play_question
play-accepted v c len h =
    let p = ask-yes _ 12 _ h in
    (p.0, call-accepted c len p.1)

-- LAW: what a voice that keeps the rules has
pub record KeptRules (v : Voice) : Type 0 where
  pub counts : counts_ok v.set ≡ true
  pub entries : entries_ok v.lists v.set.count ≡ true
  pub rate : rate_ok v.set.sample_rate ≡ true
  pub live : live_ok v.set ≡ true
  pub centres : centres_finite v.lists v.set.j ≡ true
  pub phases : phases_ok v.state.phases v.set.m ≡ true

pub kept : (v : Voice) → keeps_rules v ≡ true → KeptRules v
unfolding rules_of
kept v h =
    let p = both_true (counts_ok v.set) _ h in
    let q = both_true (entries_ok v.lists v.set.count) _ p.1 in
    let r = both_true (rate_ok v.set.sample_rate) _ q.1 in
    let s = both_true (live_ok v.set) _ r.1 in
    let t = both_true (centres_finite v.lists v.set.j) _ s.1 in
    record { counts = p.0; entries = q.0; rate = r.0; live = s.0; centres = t.0; phases = t.1 }
