-- No running state changes with a plan. Assumes nothing.
use mathlib.Core.Path.{◌≡◌, refl, ap, sym, ◌∙◌}
use mathlib.Core.Logic.{inl, inr}
use mathlib.Core.List.{[], ◌∷◌}
use mathlib.Core.Bool.{true}
use Prim.Native.Nat.{ℕ, suc, ◌<◌}
use native.Mathlib.Nat.{one-mul, zero-mul, mod-one}
use native.Mathlib.Omega.{arith}
use lib.ListN.{length, get_or, replicate, length-replicate, get_or-replicate}
use lib.Seq.{get_or-take}
use borrow.Author.Tests.{eq-eqb}
use lib.Ieee.{Float}
use Rattle.voice.specs.Input.{Call, part_of, gains_at, input_ok, inputs_ok}
use Rattle.voice.specs.Question.{accepted, ask, call_question, play_question}
use Rattle.voice.specs.Voice.{keeps_rules, with_state}
use Rattle.voice.specs.declared.voice.State.{State}
use Rattle.voice.specs.declared.voice.Voice.{Voice}
use Rattle.player.specs.Bands.{ticking}
use Rattle.player.specs.Block.{block_end}
use Rattle.player.specs.Playing.{played}
use Rattle.float.specs.F32.{quotient}
use Rattle.quiet.specs.declared.plan.Plan.{Plan}
use Rattle.quiet.specs.Plan.{quiet_gain}
use Rattle.quiet.specs.Answer.{gain_of}
use Rattle.voice.proofs.QuestionLaws.{ask-yes, call-accepted, inputs-fit}
use Rattle.claim.specs.Calls.{PlayCall, call_of, out_length, VoiceCall, playing, after, run}
use Rattle.claim.specs.Quiet.{AlikeButGains, GainsAside, constant, with_gain, PlanAside, OtherGains, Alike, GainsAsideThroughout}

-- what channel 0 leaves is by the frequencies alone
same_end : (v : Voice) (c d : Call) → AlikeButGains c d → block_end (ticking v) c ≡ block_end (ticking v) d
same_end v c d a = rw (a.samples, a.freq-channels, a.freq)

-- where both are accepted, or refused, they leave the same
same_left : (v : Voice) (c d : Call) (q r : ℕ) → AlikeButGains c d → q ≡ r
    → accepted q (with_state v (block_end (ticking v) c)) v ≡ accepted r (with_state v (block_end (ticking v) d)) v
same_left v c d q r a e =
    ap (λ (n : ℕ). accepted n (with_state v (block_end (ticking v) c)) v) e
    ∙ ap (λ (s : State). accepted r (with_state v s) v) (same_end v c d a)

-- LAW: two plays that differ only in their gain inputs leave the same voice
pub gains-aside : GainsAside
unfolding played
gains-aside v c d m n a p q = same_left v c d (play_question v c m) (play_question v d n) a (p ∙ sym q)

-- LAW: question 15 accepts a constant gain input of the block's length, whatever the gain
pub constant-accepted : (c : Call) (g : Float) → input_ok 1 c.shape.samples (length (constant c g)) ≡ true
constant-accepted c g =
    let n = c.shape.samples in
    rw (length-replicate n _, one-mul n) (eq-eqb n n refl)

-- LAW: and it is what the play hears: gain 0 of every channel at every sample
pub gain-heard : (c : Call) (g d : Float) (ch i : ℕ) → i < c.shape.samples → get_or (gains_at (with_gain c g) ch i) 0 d ≡ g
unfolding part_of
gain-heard c g d ch i h =
    let n = c.shape.samples in
    rw (mod-one ch, zero-mul n, get_or-take n (replicate n g) i (quotient 1 1) h) (get_or-replicate n i g (quotient 1 1) h)

-- the other gains stay
pub others-heard : (c : Call) (g d : Float) (ch i k : ℕ) → get_or (gains_at (with_gain c g) ch i) (suc k) d ≡ get_or (gains_at c ch i) (suc k) d
others-heard c g d ch i k = refl

-- so of all inputs, where the others are accepted
inputs-accepted : (c : Call) (g : Float) → inputs_ok c ≡ true → inputs_ok (with_gain c g) ≡ true
inputs-accepted c g h =
    let f = inputs-fit c.shape (length c.freq) (length c.g0) (length c.g1) (length c.g2) (length c.g3) h in
    rw (f.freq, constant-accepted c g, f.g1, f.g2, f.g3)

-- and of all questions
call-accepted-with : (c : Call) (g : Float) (len : ℕ) → call_question c len ≡ 0 → call_question (with_gain c g) len ≡ 0
unfolding call_question ask
call-accepted-with c g len h =
    let a = call-accepted c len h in
    rw (a.block, inputs-accepted c g a.inputs, a.frequencies)

play-accepted-with : (v : Voice) (c : Call) (g : Float) (len : ℕ) → play_question v c len ≡ 0 → play_question v (with_gain c g) len ≡ 0
unfolding play_question ask
play-accepted-with v c g len h =
    let a = ask-yes (keeps_rules v) 12 (call_question c len) h in
    rw a.0 (call-accepted-with c g len a.1)

-- LAW: a play that is accepted is accepted with a plan's gain, and leaves the same voice
pub plan-aside : PlanAside
unfolding played
plan-aside p w v c len h = rw (play-accepted-with v c (gain_of (quiet_gain p w)) len h, h)

-- LAW: a play that is accepted, and the same with a plan's gain, are such calls
pub plan-alike :
    (p : Plan) (w : ℕ) (one other : PlayCall)
    → call_of other ≡ with_gain (call_of one) (gain_of (quiet_gain p w))
    → out_length other ≡ out_length one
    → call_question (call_of one) (out_length one) ≡ 0
    → OtherGains (playing one) (playing other)
plan-alike p w one other e l h = record {
  one = one;
  other = other;
  is_one = refl;
  is-other = refl;
  alike = rw e (record { samples = refl; channels = refl; freq-channels = refl; freq = refl });
  answered = h ∙ sym (rw (e, l) (call-accepted-with (call_of one) (gain_of (quiet_gain p w)) (out_length one) h));
}

same_after : (v : Voice) (c d : VoiceCall) → Alike c d → after v c ≡ after v d
unfolding after played play_question
same_after v c d (inl e) = ap (after v) e
same_after v c d (inr o) =
    rw (o.is_one, o.is-other)
    (same_left v (call_of o.one) (call_of o.other) _ _ o.alike (ap (ask (keeps_rules v) 13) o.answered))

-- LAW: after two lists of calls that differ only in gains the voice is the same
pub gains-aside-throughout : GainsAsideThroughout
unfolding run
gains-aside-throughout v [] [] a = refl
gains-aside-throughout v [] (d ∷ ds) a = let e = a.as_many in absurd (omega arith)
gains-aside-throughout v (c ∷ cs) [] a = let e = a.as_many in absurd (omega arith)
gains-aside-throughout v (c ∷ cs) (d ∷ ds) a =
    let e = a.as_many in
    rw (same_after v c d (a.each 0 (omega arith)))
    (gains-aside-throughout (after v d) cs ds (record { as_many = omega arith; each = λ i h. a.each (suc i) (omega arith) }))
