-- A voice that keeps the rules keeps them after every call; a refused call changes nothing. Assumes nothing.
use mathlib.Core.Path.{◌≡◌, refl, sym, subst, ◌∙◌}
use mathlib.Core.List.{List, [], ◌∷◌}
use mathlib.Core.Bool.{Bool, true, false, cond}
use Prim.Native.Nat.{ℕ, zero, suc, ◌+◌, ◌*◌, ◌%◌, ◌≤◌, ◌<◌}
use native.Mathlib.Nat.{suc-add, add-suc, add-zero}
use native.Mathlib.Omega.{arith}
use lib.ListN.{length, get_or, take, drop}
use lib.Dec.{T, eqb}
use lib.Ieee.{Float, nan, binary32, lt, fits}
use lib.Ieee.Fits.{round-fits, cond-fits}
use lib.Ieee.Scale.{finite}
use borrow.Author.Tests.{eqb-false}
use Rattle.making.proofs.FreshLaws.{phases-ok}
use Rattle.float.specs.inner.Range.{Within}
use Rattle.float.specs.F32.{quotient}
use Rattle.player.specs.Phase.{advance_of}
use Rattle.player.specs.inner.Ranges.{Step}
use Rattle.voice.specs.Lists.{map_to, steps}
use Rattle.voice.specs.Input.{Call, part_of, frequency_at, frequency_ok, cleaned}
use Rattle.voice.specs.Voice.{pitches, stretches, phase_ok, pitch_ok, stretch_ok, rate_ok, phases_ok, rules_of, keeps_rules, voice_of, with_state, first_state}
use Rattle.player.specs.Sound.{sides_at, stretch_at, step_at, moved_phases, moved}
use Rattle.player.specs.Bands.{all_live, ticking}
use Rattle.player.specs.Block.{state_at, block_end}
use Rattle.player.specs.inner.Passes.{EntriesFit}
use Rattle.voice.specs.Question.{ask, accepted, call_question, play_question}
use Rattle.player.specs.Playing.{played}
use Rattle.voice.specs.Restart.{reset_of, reseed_of, reseeded_state}
use Rattle.voice.specs.Retuning.{retuned, rate_question, retune_of}
use Rattle.voice.specs.declared.voice.State.{State}
use Rattle.voice.specs.declared.voice.Voice.{Voice}
use Rattle.voice.proofs.Loops.{every-at, at_every}
use Rattle.voice.proofs.QuestionLaws.{ask-yes, kept, call-accepted}
use Rattle.voice.proofs.RetuneLaws.{front_kept, length-kept, retuned-rules}
use Rattle.player.proofs.BandLaws.{ticking-rules}
use Rattle.player.proofs.PhaseLaws.{step-step}
use Rattle.player.proofs.RangeLaws.{advance-ok, phase-passes}
use Rattle.player.proofs.SoundLaws.{cleaned-within, voice-fits, frequencies-fit}
use Rattle.claim.specs.Calls.{AllF32, PlayCall, call_of, out_length, VoiceCall, playing, resetting, reseeding, retuning, after, run}
use Rattle.claim.proofs.Sides.{between-stretch}

-- a cleaned frequency is an f32 value
cleaned-fits : (f : Float) → T (fits binary32 f) → T (fits binary32 (cleaned f))
unfolding cleaned
cleaned-fits f F = cond-fits binary32 (finite f) _ _ (cond-fits binary32 (lt (quotient 0 1) f) _ _ F (round-fits binary32 false 0 1)) (round-fits binary32 false 0 1)

-- the pitches and stretches of a voice are f32 values, and its short lists have all their places
pub record VoiceF32 (v : Voice) : Type 0 where
  pub places : length v.lists ≡ 176
  pub pitches32 : (i : ℕ) → i < v.set.count → T (fits binary32 (get_or (pitches v) i nan))
  pub stretches32 : (i : ℕ) → i < v.set.count → T (fits binary32 (get_or (stretches v) i nan))

-- ---- what question 13 says
pub phases-of : (v : Voice) → keeps_rules v ≡ true → phases_ok v.state.phases v.set.m ≡ true
phases-of v h = (kept v h).phases

pub phases-most : (v : Voice) → keeps_rules v ≡ true → v.set.m ≤ 32
phases-most v h = (voice-fits v h).entries.sizes.1

-- another running state, whose phases pass
pub rules-with : (v : Voice) (s : State) → keeps_rules v ≡ true → phases_ok s.phases v.set.m ≡ true → keeps_rules (with_state v s) ≡ true
unfolding rules_of
rules-with v s h k = let a = kept v h in rw (a.counts, a.entries, a.rate, a.live, a.centres) k

-- ---- one sample
ok-map_to : (f : ℕ → Float → Float) (k n i : ℕ) (l : List Float) → i < n → ((p : Float) → phase_ok p ≡ true → phase_ok (f (k + i) p) ≡ true)
    → phase_ok (get_or l i nan) ≡ true → phase_ok (get_or (map_to f k n l) i nan) ≡ true
unfolding map_to
ok-map_to f k zero i l h g o = absurd (omega arith)
ok-map_to f k (suc n) i [] h g o = o
ok-map_to f k (suc n) zero (p ∷ l) h g o = rw add-zero at (g p o)
ok-map_to f k (suc n) (suc i) (p ∷ l) h g o = ok-map_to f (suc k) n i l (omega arith) (λ q r. rw (suc-add k i, ← add-suc k i) (g q r)) o

-- by a test: the phases of one of two states pass
cond-ok : (b : Bool) (s t : State) (m : ℕ) → (b ≡ true → phases_ok s.phases m ≡ true) → (b ≡ false → phases_ok t.phases m ≡ true) → phases_ok (cond b s t).phases m ≡ true
cond-ok true s t m g h = g refl
cond-ok false s t m g h = h refl

module _ (v : Voice) (E : EntriesFit v.set v.lists) (W : VoiceF32 v) where
  step_ok : (f0 : Float) (i : ℕ) → 0 < v.set.count → Within 20000 1 f0 → T (fits binary32 f0) → i < v.set.m → Step (step_at v f0 i)
  unfolding sides_at
  step_ok f0 i c F F32 l =
      let n = v.set.count in
      step-step (i + 1) f0 (stretch_at v f0) v.set.sample_rate (omega (arith, E.sizes)) F
      (between-stretch (pitches v) f0 n c (λ i. every-at (λ i. pitch_ok (get_or (pitches v) i nan)) n i E.pitches-ok) W.pitches32 F.plain-is F32
      (stretches v) (λ i. every-at (λ i. stretch_ok (get_or (stretches v) i nan)) n i E.stretches-ok) W.stretches32) E.rate

  moved_phases-ok : (f0 : Float) (ps : List Float) → 0 < v.set.count → Within 20000 1 f0 → T (fits binary32 f0) → phases_ok ps v.set.m ≡ true → phases_ok (moved_phases v f0 ps) v.set.m ≡ true
  unfolding moved_phases phases_ok
  moved_phases-ok f0 ps c F F32 h =
      at_every (λ i. phase_ok (get_or (moved_phases v f0 ps) i nan)) v.set.m
      (λ i l. ok-map_to (λ i p. advance_of p (step_at v f0 i)) 0 v.set.m i ps l
      (λ p o. phase-passes _ (advance-ok p (step_at v f0 (0 + i)) o (step_ok f0 (0 + i) c F F32 (omega arith))))
      (every-at (λ i. phase_ok (get_or ps i nan)) v.set.m i h l))

  pub moved_ok : (f0 : Float) (s : State) → Within 20000 1 f0 → T (fits binary32 f0) → phases_ok s.phases v.set.m ≡ true → phases_ok (moved v f0 s).phases v.set.m ≡ true
  unfolding moved
  moved_ok f0 s F F32 h =
      cond-ok (eqb v.set.count 0) s _ v.set.m (λ e. h) (λ e. moved_phases-ok f0 s.phases (pos_of v.set.count (eqb-false v.set.count 0 e)) F F32 h)
    where
      pos_of : (n : ℕ) → (n ≡ 0 → ⊥) → 0 < n
      pos_of zero h = absurd (h refl)
      pos_of (suc n) h = omega arith

  -- the samples of a play
  pub state_at-ok : (freq : ℕ → Float) (n : ℕ) → ((i : ℕ) → frequency_ok (freq i) ≡ true) → ((i : ℕ) → T (fits binary32 (freq i)))
      → phases_ok v.state.phases v.set.m ≡ true → phases_ok (state_at v freq n).phases v.set.m ≡ true
  unfolding state_at steps
  state_at-ok freq zero ok ok32 h = h
  state_at-ok freq (suc n) ok ok32 h =
      moved_ok (cleaned (freq n)) (state_at v freq n) (cleaned-within (freq n) (ok n)) (cleaned-fits (freq n) (ok32 n)) (state_at-ok freq n ok ok32 h)

-- ---- the frequencies of an accepted play
-- what is read of a part of f32 values is one, also past its end
drop-32 : (k : ℕ) (fs : List Float) → AllF32 fs → AllF32 (drop k fs)
drop-32 zero fs h = h
drop-32 (suc k) [] h = h
drop-32 (suc k) (f ∷ fs) h = drop-32 k fs (λ i l. h (suc i) (omega arith))

take-fits : (n : ℕ) (fs : List Float) (i : ℕ) → AllF32 fs → T (fits binary32 (get_or (take n fs) i (quotient 220 1)))
take-fits zero fs i h = round-fits binary32 false 220 1
take-fits (suc n) [] i h = round-fits binary32 false 220 1
take-fits (suc n) (f ∷ fs) zero h = h 0 (omega arith)
take-fits (suc n) (f ∷ fs) (suc i) h = take-fits n fs i (λ i l. h (suc i) (omega arith))

part-fits : (b : Bool) (k n : ℕ) (fs : List Float) (i : ℕ) → AllF32 fs → T (fits binary32 (get_or (cond b [] (take n (drop k fs))) i (quotient 220 1)))
part-fits true k n fs i h = round-fits binary32 false 220 1
part-fits false k n fs i h = take-fits n (drop k fs) i (drop-32 k fs h)

frequency-fits : (p : PlayCall) (ch i : ℕ) → T (fits binary32 (frequency_at (call_of p) ch i))
unfolding part_of
frequency-fits p ch i = part-fits (eqb p.shape.freq 0) ((ch % p.shape.freq) * p.shape.samples) p.shape.samples p.freq.list i p.freq.are32

-- ---- a call
-- with question 13 answered yes, the call's own questions are left
pub question-call : (v : Voice) (c : Call) (len : ℕ) → keeps_rules v ≡ true → play_question v c len ≡ call_question c len
unfolding play_question ask
question-call v c len h = rw h

pub question-none : (v : Voice) → keeps_rules v ≡ true → ask (keeps_rules v) 13 0 ≡ 0
unfolding ask
question-none v h = rw h

accepted-rules : (q : ℕ) (v w : Voice) → keeps_rules v ≡ true → (q ≡ 0 → keeps_rules w ≡ true) → keeps_rules (accepted q w v) ≡ true
accepted-rules zero v w h k = k refl
accepted-rules (suc q) v w h k = h

-- as it is played, a voice has as many phases and entries as it has
ticking-phases : (v : Voice) → (ticking v).set.m ≡ v.set.m
ticking-phases v = cond_both (eqb v.set.blend 0)
  where
    cond_both : (b : Bool) → (cond b (all_live v.set) v.set).m ≡ v.set.m
    cond_both true = refl
    cond_both false = refl

ticking-32 : (v : Voice) → VoiceF32 v → VoiceF32 (ticking v)
ticking-32 v W = cond_both (eqb v.set.blend 0)
  where
    cond_both : (b : Bool) → VoiceF32 (voice_of (cond b (all_live v.set) v.set) v.lists v.partials v.noise v.state)
    cond_both true = record { places = W.places; pitches32 = W.pitches32; stretches32 = W.stretches32 }
    cond_both false = W

-- with question 13 answered yes, question 11 is left of a retune
pub question-rate : (v : Voice) (rate : Float) → keeps_rules v ≡ true → ask (keeps_rules v) 13 (rate_question rate) ≡ rate_question rate
unfolding ask
question-rate v rate h = rw h

pub rate-yes : (rate : Float) → rate_question rate ≡ 0 → rate_ok rate ≡ true
unfolding rate_question
rate-yes rate e = (ask-yes (rate_ok rate) 10 0 e).0

-- LAW: a voice that keeps the rules keeps them after a call
pub rules-kept : (v : Voice) (c : VoiceCall) → VoiceF32 v → keeps_rules v ≡ true → keeps_rules (after v c) ≡ true
unfolding after played reset_of reseed_of retune_of
rules-kept v (playing p) W h =
    let c = call_of p in
    accepted-rules (play_question v c (out_length p)) v (with_state v (block_end (ticking v) c)) h
    (λ e.
    let n = c.shape.samples in
    let A = call-accepted c (out_length p) (sym (question-call v c (out_length p) h) ∙ e) in
    let w = ticking v in
    let k = ticking-rules v h in
    rules-with v (block_end w c) h
    (subst (λ (m : ℕ). phases_ok (block_end w c).phases m ≡ true) (ticking-phases v)
    (state_at-ok w (voice-fits w k).entries (ticking-32 v W) (frequency_at c 0) n (frequencies-fit c.shape.freq n 0 c.freq A.frequencies) (frequency-fits p 0) (phases-of w k))))
rules-kept v resetting W h = accepted-rules (ask (keeps_rules v) 13 0) v (with_state v first_state) h (λ e. rules-with v first_state h (phases-ok v.set.m (phases-most v h)))
rules-kept v (reseeding n) W h =
    accepted-rules (ask (keeps_rules v) 13 0) v (with_state v (reseeded_state v.state n)) h (λ e. rules-with v (reseeded_state v.state n) h (phases-of v h))
rules-kept v (retuning rate) W h =
    accepted-rules (ask (keeps_rules v) 13 (rate_question rate)) v (retuned v rate) h
    (λ e. retuned-rules v rate W.places h (rate-yes rate (sym (question-rate v rate h) ∙ e)))

-- what an accepted call leaves has f32 values too
pub with-32 : (v : Voice) (s : State) → VoiceF32 v → VoiceF32 (with_state v s)
with-32 v s W = record { places = W.places; pitches32 = W.pitches32; stretches32 = W.stretches32 }

retuned-32 : (v : Voice) (rate : Float) → VoiceF32 v → VoiceF32 (retuned v rate)
retuned-32 v rate W =
    let j = v.set.j in
    record {
      places = length-kept v.lists W.places j rate;
      pitches32 = λ i l. rw (front_kept v.lists W.places j rate 0 (omega arith)) (W.pitches32 i l);
      stretches32 = λ i l. rw (front_kept v.lists W.places j rate 1 (omega arith)) (W.stretches32 i l);
    }

accepted-32 : (q : ℕ) (v w : Voice) → VoiceF32 v → VoiceF32 w → VoiceF32 (accepted q w v)
accepted-32 zero v w given W = W
accepted-32 (suc q) v w given W = given

after-32 : (v : Voice) (c : VoiceCall) → VoiceF32 v → VoiceF32 (after v c)
unfolding after played reset_of reseed_of retune_of
after-32 v (playing p) W = accepted-32 (play_question v (call_of p) (out_length p)) v _ W (with-32 v _ W)
after-32 v resetting W = accepted-32 (ask (keeps_rules v) 13 0) v _ W (with-32 v _ W)
after-32 v (reseeding n) W = accepted-32 (ask (keeps_rules v) 13 0) v _ W (with-32 v _ W)
after-32 v (retuning rate) W = accepted-32 (ask (keeps_rules v) 13 (rate_question rate)) v _ W (retuned-32 v rate W)

-- LAW: and after any list of calls
pub rules-kept-run : (v : Voice) (cs : List VoiceCall) → VoiceF32 v → keeps_rules v ≡ true → keeps_rules (run v cs) ≡ true
unfolding run
rules-kept-run v [] W h = h
rules-kept-run v (c ∷ cs) W h = rules-kept-run (after v c) cs (after-32 v c W) (rules-kept v c W h)

-- ---- refused calls
accepted-same : (q : ℕ) (v w : Voice) → (q ≡ 0 → ⊥) → accepted q w v ≡ v
accepted-same zero v w h = absurd (h refl)
accepted-same (suc q) v w h = refl

-- LAW: a play that one of its questions refuses returns the voice as given
pub refused-same : (v : Voice) (p : PlayCall) → keeps_rules v ≡ true → (call_question (call_of p) (out_length p) ≡ 0 → ⊥) → after v (playing p) ≡ v
unfolding after played
refused-same v p h r = accepted-same (play_question v (call_of p) (out_length p)) v _ (λ e. r (sym (question-call v (call_of p) (out_length p) h) ∙ e))

-- LAW: and so does a retune that question 11 refuses
pub refused-rate-same : (v : Voice) (rate : Float) → keeps_rules v ≡ true → (rate_question rate ≡ 0 → ⊥) → after v (retuning rate) ≡ v
unfolding after retune_of
refused-rate-same v rate h r = accepted-same (ask (keeps_rules v) 13 (rate_question rate)) v _ (λ e. r (sym (question-rate v rate h) ∙ e))

question-13 : (v : Voice) (rest : ℕ) → keeps_rules v ≡ false → ask (keeps_rules v) 13 rest ≡ 0 → ⊥
unfolding ask
question-13 v rest h e = let z : ◌≡◌ {A = ℕ} 13 0 = rw h at e in omega arith

-- LAW: a voice that does not keep the rules is returned as given by every call
pub bad-voice-same : (v : Voice) (c : VoiceCall) → keeps_rules v ≡ false → after v c ≡ v
unfolding after played reset_of reseed_of retune_of play_question
bad-voice-same v (playing p) h = accepted-same _ v _ (question-13 v _ h)
bad-voice-same v resetting h = accepted-same _ v _ (question-13 v _ h)
bad-voice-same v (reseeding n) h = accepted-same _ v _ (question-13 v _ h)
bad-voice-same v (retuning rate) h = accepted-same _ v _ (question-13 v _ h)
