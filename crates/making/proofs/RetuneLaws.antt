-- Retune and the making: a fresh voice that is retuned is the fresh voice of the same making at the new rate. Assumes nothing.
use mathlib.Core.Path.{◌≡◌, ap, sym, ◌∙◌}
use mathlib.Core.List.{List}
use mathlib.Core.Bool.{true}
use native.Mathlib.Omega.{arith}
use lib.Ieee.{Float}
use Rattle.table.specs.declared.desk.Kind.{Kind}
use Rattle.table.specs.Table.{PitchEntry}
use Rattle.table.specs.Decode.{decode, entries_of}
use Rattle.table.specs.Desk.{band_count}
use Rattle.wire.specs.Parse.{Refusal}
use Rattle.voice.specs.Bands.{init_floats}
use Rattle.voice.specs.Question.{ask, accepted}
use Rattle.voice.specs.Retuning.{with_rate, retuned, rate_question, retune_of}
use Rattle.voice.specs.Voice.{rate_ok, keeps_rules, voice_of}
use Rattle.voice.specs.declared.answer.Played.{Played}
use Rattle.voice.specs.declared.voice.Voice.{Voice}
use Rattle.voice.proofs.InitLaws.{length-init}
use Rattle.making.specs.Making.{voice_entries, fresh_lists, fresh_voice, blank_voice, Making, making, make_question, make_of}
use Rattle.making.proofs.ListLaws.{lists-init}
use Rattle.making.proofs.MakingLaws.{Accepted, accepted-question}
use Rattle.making.proofs.AcceptedLaws.{make-accepted, made-accepted}
use Rattle.making.proofs.SortLaws.{bands-few}
use Rattle.making.proofs.FreshLaws.{entries-few, accepted-rules}

module _ (k : Kind) (es : List PitchEntry) (rate : Float) (centres : List Float) (a : Accepted k es rate centres) where
  -- the same making is accepted at any rate that a voice can have
  pub at-rate : (r : Float) → rate_ok r ≡ true → Accepted k es r centres
  at-rate r h = record {
    few = a.few;
    sizes = a.sizes;
    values = a.values;
    found = a.found;
    rate-ok = h;
    as_many = a.as_many;
    centres-finite = a.centres-finite;
  }

  -- LAW
  pub retuned-fresh : (r : Float) → retuned (fresh_voice k es rate centres) r ≡ fresh_voice k es r centres
  unfolding fresh_voice fresh_lists
  retuned-fresh r =
      let most = bands-few k es a.sizes in
      let v = fresh_voice k es rate centres in
      ap (λ (l : List Float). voice_of (with_rate v.set r) l v.partials v.noise v.state)
      (lists-init (voice_entries k es) (entries-few k es rate centres a) centres (band_count k es) a.as_many most (init_floats centres rate) r
      (length-init centres rate (omega (arith, a.as_many))))

-- a retune that is accepted
retune-accepted : (v : Voice) (r : Float) → keeps_rules v ≡ true → rate_ok r ≡ true → retune_of v r ≡ record { number = 0; voice = retuned v r }
unfolding retune_of rate_question ask
retune-accepted v r h k = rw (h, k)

-- the same making at another rate
abbrev pub at_rate : Making → Float → Making
at_rate m r = making m.kind m.image r m.centres

abbrev fresh : Making → Voice
fresh m = fresh_voice m.kind (entries_of (decode m.image)) m.rate m.centres

made-is : (m : Making) → (make_question m).number ≡ 0 → (make_of m).voice ≡ fresh m
unfolding make_of
made-is m e = ap (λ q. accepted q (fresh m) blank_voice) e

at-accepted : (m : Making) (r : Float) → (make_question m).number ≡ 0 → rate_ok r ≡ true → (make_question (at_rate m r)).number ≡ 0
unfolding make_question
at-accepted m r e h = make-accepted m e λ t n d A.
    rw d (ap (λ (q : Refusal). q.number) (accepted-question m.kind t.entries r m.centres (at-rate m.kind t.entries m.rate m.centres A r h)))

module _ (m : Making) (e : (make_question m).number ≡ 0) where
  -- LAW: a voice that was made, retuned, is the voice that the same making gives at that rate
  pub retune-made : (r : Float) → rate_ok r ≡ true → retune_of (make_of m).voice r ≡ record { number = 0; voice = (make_of (at_rate m r)).voice }
  retune-made r h =
      let A = made-accepted m e in
      let es = entries_of (decode m.image) in
      ap (λ v. retune_of v r) (made-is m e)
      ∙ retune-accepted (fresh m) r (accepted-rules m.kind es m.rate m.centres A) h
      ∙ ap (λ (v : Voice). record { number = 0; voice = v }) (retuned-fresh m.kind es m.rate m.centres A r ∙ sym (made-is (at_rate m r) (at-accepted m r e h)))

  -- LAW: so a retune to the rate that it was made with gives that very voice back
  pub retune-same : retune_of (make_of m).voice m.rate ≡ record { number = 0; voice = (make_of m).voice }
  retune-same = retune-made m.rate (made-accepted m e).rate-ok

-- LAW: to another rate and back: that very voice
pub retune-back : (m : Making) (r : Float) → (make_question m).number ≡ 0 → rate_ok r ≡ true
    → retune_of (retune_of (make_of m).voice r).voice m.rate ≡ record { number = 0; voice = (make_of m).voice }
retune-back m r e h =
    ap (λ (p : Played). retune_of p.voice m.rate) (retune-made m e r h)
    ∙ retune-made (at_rate m r) (at-accepted m r e h) m.rate (made-accepted m e).rate-ok
