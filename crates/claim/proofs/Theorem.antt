-- The claim, for every making and every list of calls. Assumes nothing.
use mathlib.Core.Path.{◌≡◌, ap, sym, subst, ◌∙◌}
use mathlib.Core.List.{List}
use mathlib.Core.Bool.{true}
use lib.ListN.{get_or}
use lib.Ieee.{nan, le, lt}
use Rattle.float.specs.F32.{quotient}
use Rattle.voice.specs.Voice.{phase_ok, phases_ok, keeps_rules, first_state}
use Rattle.voice.specs.Question.{accepted}
use Rattle.making.specs.Making.{fresh_voice, blank_voice, Making, make_of}
use Rattle.voice.specs.declared.voice.Voice.{Voice}
use Rattle.claim.specs.Machine.{machine, plain_of, start_from, Supplied, supplied}
use Rattle.claim.specs.Calls.{VoiceCall, run, fed, running}
use Rattle.claim.specs.Claim.{PhasesIn, Claim}
use Rattle.voice.proofs.Loops.{both_true, every-at}
use Rattle.making.proofs.MakingLaws.{Accepted}
use Rattle.making.proofs.AcceptedLaws.{made-accepted}
use Rattle.making.proofs.FreshLaws.{fresh-rules}
use Rattle.claim.proofs.Rules.{phases-of}
use Rattle.claim.proofs.Stands.{entries_in, voice_at, stands-run, stands-first}

-- what question 13 says of the phases
pub phases-in : (v : Voice) → keeps_rules v ≡ true → PhasesIn v
unfolding phases_ok
phases-in v h i l =
    let p = get_or v.state.phases i nan in
    both_true (le (quotient 0 1) p) (lt p (quotient 1 1)) (every-at (λ i. phase_ok (get_or v.state.phases i nan)) v.set.m i (phases-of v h) l)

-- the three parts of the claim, of the calls' voice
abbrev Says : Making → List VoiceCall → Voice → Type 0
Says m calls w =
    let v = run w calls in
    PhasesIn v × (running v ≡ machine (plain_of m) (fed m calls)) × (keeps_rules v ≡ true)

abbrev fresh : Making → Voice
fresh m = fresh_voice m.kind (entries_in m) m.rate m.centres

-- the fresh voice is the voice that stands at first
from-fresh : (m : Making) (calls : List VoiceCall) → Accepted m.kind (entries_in m) m.rate m.centres → keeps_rules (voice_at m m.rate first_state) ≡ true
    → Says m calls (voice_at m m.rate first_state)
from-fresh m calls A h =
    let v = run (voice_at m m.rate first_state) calls in
    let S = stands-run m A (voice_at m m.rate first_state) (supplied (plain_of m) (start_from (plain_of m))) calls (stands-first m A h) in
    let kept : keeps_rules v ≡ true = subst (λ (w : Voice). keeps_rules w ≡ true) (sym S.voice-is) S.kept in
    let same : running v ≡ machine (plain_of m) (fed m calls) = ap running S.voice-is ∙ sym (ap (λ (y : Supplied). y.state) S.machine-is) in
    (phases-in v kept, same, kept)

-- THE CLAIM
pub claim : Claim
unfolding make_of fresh_voice
claim m calls e =
    subst (λ (w : Voice). Says m calls w) (sym (ap (λ q. accepted q (fresh m) blank_voice) e)) (from-fresh m calls (made-accepted m e) (fresh-rules m e))
