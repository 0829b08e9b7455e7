-- The claim about every list of calls.
use Rattle.std.specs.Prelude.{ℕ, ◌<◌, ◌≡◌, true, List, get_or}
use Rattle.std.specs.Float.{nan}
use Rattle.std.specs.Float.Ieee.{le, lt}
use Rattle.voice.specs.declared.voice.Voice.{Voice}
use Rattle.float.specs.F32.{quotient}
use Rattle.voice.specs.Voice.{keeps_rules}
use Rattle.making.specs.Making.{Making, make_of}
use Rattle.claim.specs.Machine.{machine, plain_of}
use Rattle.claim.specs.Calls.{VoiceCall, run, fed, running}

-- every phase is at least 0 and below 1
abbrev pub PhasesIn : Voice → Type 0
PhasesIn v =
    (i : ℕ) → i < v.set.m
    → (le (quotient 0 1) (get_or v.state.phases i nan) ≡ true) × (lt (get_or v.state.phases i nan) (quotient 1 1) ≡ true)

-- For every kind, image, rate and centres whose making is accepted, and every list of calls from the voice made, refused ones included:
-- every phase is at least 0 and below 1, the running state is the plain machine's, fed the list's resets, seeds, joined channel 0
-- frequencies of the accepted plays and rates of the accepted retunes, and question 13 is answered yes throughout.
abbrev pub Claim : Type 0
Claim =
    (m : Making) (calls : List VoiceCall)
    → (make_of m).refusal.number ≡ 0
    → let v = run (make_of m).voice calls in
    PhasesIn v × (running v ≡ machine (plain_of m) (fed m calls)) × (keeps_rules v ≡ true)
