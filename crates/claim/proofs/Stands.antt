-- The invariant of the claim: after any calls a voice is the fresh voice of its making at some rate, with some running state, and beside it
-- stands the machine that takes what the making gives at that rate, its state what of the voice's is in use. Assumes nothing.
use mathlib.Core.Path.{◌≡◌, refl, ap, sym, subst, ◌∙◌}
use mathlib.Core.List.{List, [], ◌∷◌, map}
use mathlib.Core.Bool.{true}
use Prim.Native.Nat.{ℕ, zero, suc, ◌≤◌, ◌<◌}
use native.Mathlib.Omega.{arith}
use lib.ListN.{length, get_or, length-map}
use lib.Dec.{T}
use lib.Ieee.{Float, nan, binary32, fits}
use lib.Ieee.Fits.{nan-fits}
use lib.Ieee.Bits.{of_bits-fits}
use Rattle.table.specs.Table.{PitchEntry}
use Rattle.table.specs.Decode.{decode, entries_of}
use Rattle.table.specs.Desk.{band_count}
use Rattle.float.specs.F32.{quotient}
use Rattle.voice.specs.Lists.{up_to, padded}
use Rattle.voice.specs.Input.{frequency_at}
use Rattle.voice.specs.Voice.{rate_ok, keeps_rules, with_state, first_state}
use Rattle.voice.specs.Question.{ask, accepted, play_question}
use Rattle.voice.specs.Restart.{reset_of, reseed_of, reseeded_state}
use Rattle.voice.specs.Retuning.{retuned, rate_question, retune_of}
use Rattle.voice.specs.declared.voice.State.{State}
use Rattle.voice.specs.declared.voice.Voice.{Voice}
use Rattle.player.specs.Bands.{ticking}
use Rattle.player.specs.Block.{block_end}
use Rattle.player.specs.Playing.{played}
use Rattle.making.specs.Making.{f32, voice_entries, fresh_voice, Making}
use Rattle.voice.proofs.Loops.{get_or-padded}
use Rattle.making.proofs.MakingLaws.{Accepted}
use Rattle.making.proofs.FreshLaws.{fresh-pitches, fresh-stretches, fresh-places, entries-few}
use Rattle.making.proofs.SortLaws.{bands-few}
use Rattle.making.proofs.RetuneLaws.{retuned-fresh, at-rate}
use Rattle.claim.specs.Machine.{bands_for, Plain, plain_from, plain_of, Event, frequency, reset, seed, retune, start_from, Supplied, supplied, move, machine_from}
use Rattle.claim.specs.Calls.{call_of, out_length, VoiceCall, playing, resetting, reseeding, retuning, after, run, fed_by, fed, running}
use Rattle.claim.proofs.Rules.{VoiceF32, phases-most, question-call, question-none, question-rate, rate-yes, rules-kept, with-32}
use Rattle.claim.proofs.Moves.{Sized, first-sized, state_at-sized, machine-append, view-state_at, view_first, view-reseed, ticking-fresh}

abbrev pub entries_in : Making → List PitchEntry
entries_in m = entries_of (decode m.image)

-- the fresh voice of a making at a rate, in a running state; and the machine beside it
abbrev pub voice_at : Making → Float → State → Voice
voice_at m rate s = with_state (fresh_voice m.kind (entries_in m) rate m.centres) s

abbrev pub machine_at : Making → Float → State → Supplied
machine_at m rate s = supplied (plain_from m.kind (entries_in m) rate m.centres) (running (voice_at m rate s))

pub record Stands (m : Making) (v : Voice) (y : Supplied) : Type 0 where
  pub rate : Float
  pub state : State
  pub can : rate_ok rate ≡ true
  pub sized : Sized state
  pub kept : keeps_rules (voice_at m rate state) ≡ true
  pub voice-is : v ≡ voice_at m rate state
  pub machine-is : y ≡ machine_at m rate state

-- ---- the floats of a table are f32 values
map-fits : (pattern : PitchEntry → ℕ) (vs : List PitchEntry) (i : ℕ) → T (fits binary32 (get_or (map (λ e. f32 (pattern e)) vs) i nan))
map-fits pattern [] i = nan-fits binary32
map-fits pattern (e ∷ vs) zero = of_bits-fits binary32 (pattern e)
map-fits pattern (e ∷ vs) (suc i) = map-fits pattern vs i

-- and so are those of a list that holds one of each entry
column_fits : (pattern : PitchEntry → ℕ) (vs : List PitchEntry) (l : List Float) → l ≡ padded 16 (quotient 0 1) (map (λ e. f32 (pattern e)) vs)
    → (i : ℕ) → i < length vs → T (fits binary32 (get_or l i nan))
column_fits pattern vs l e i h =
    let g : PitchEntry → Float = λ e. f32 (pattern e) in
    rw (e, get_or-padded 16 (quotient 0 1) nan (map g vs) i (rw (length-map vs g) h)) (map-fits pattern vs i)

-- ---- a call, by its question's number: where it is refused the voice is as given, and the machine is fed nothing
either : (m : Making) (q : ℕ) (v w : Voice) (y : Supplied) (evs : List Event) → Stands m v y → (q ≡ 0 → Stands m w (machine_from y evs))
    → Stands m (accepted q w v) (machine_from y (accepted q evs []))
unfolding machine_from
either m zero v w y evs h k = k refl
either m (suc q) v w y evs h k = h

-- and the machine is fed by the same number: the call's own question, question 13 being answered yes
by-question : (m : Making) (q own : ℕ) (v w : Voice) (y : Supplied) (evs : List Event) → q ≡ own → Stands m v y → (q ≡ 0 → Stands m w (machine_from y evs))
    → Stands m (accepted q w v) (machine_from y (accepted own evs []))
by-question m q own v w y evs e h k = subst (λ (n : ℕ). Stands m (accepted q w v) (machine_from y (accepted n evs []))) e (either m q v w y evs h k)

-- of a call that no question refuses
by-none : (m : Making) (q : ℕ) (v w : Voice) (y : Supplied) → q ≡ 0 → Stands m w y → Stands m (accepted q w v) y
by-none m q v w y e h = rw e h

module _ (m : Making) (A : Accepted m.kind (entries_in m) m.rate m.centres) where
  few : length (voice_entries m.kind (entries_in m)) ≤ 16
  few = entries-few m.kind (entries_in m) m.rate m.centres A

  fresh-32 : (rate : Float) → VoiceF32 (fresh_voice m.kind (entries_in m) rate m.centres)
  unfolding fresh_voice
  fresh-32 rate =
      let k = m.kind in
      let es = entries_in m in
      record {
        places = fresh-places k es rate m.centres few (omega (arith, A.as_many, bands-few k es A.sizes));
        pitches32 = column_fits (λ e. e.f0_hz) (voice_entries k es) _ (fresh-pitches k es rate m.centres few);
        stretches32 = column_fits (λ e. e.stretch) (voice_entries k es) _ (fresh-stretches k es rate m.centres few);
      }

  -- where it stands
  here : (rate : Float) (s : State) → rate_ok rate ≡ true → Sized s → keeps_rules (voice_at m rate s) ≡ true → Stands m (voice_at m rate s) (machine_at m rate s)
  here rate s can z h = record { rate = rate; state = s; can = can; sized = z; kept = h; voice-is = refl; machine-is = refl }

  module _ (rate : Float) (s : State) (can : rate_ok rate ≡ true) (z : Sized s) (h : keeps_rules (voice_at m rate s) ≡ true) where
    abbrev v : Voice
    v = voice_at m rate s

    abbrev y : Supplied
    y = machine_at m rate s

    abbrev x : Plain
    x = plain_from m.kind (entries_in m) rate m.centres

    W : VoiceF32 v
    W = with-32 (fresh_voice m.kind (entries_in m) rate m.centres) s (fresh-32 rate)

    most : band_count m.kind (entries_in m) ≤ 16
    most = bands-few m.kind (entries_in m) A.sizes

    phases : (plain_from m.kind (entries_in m) rate m.centres).phases ≤ 32
    unfolding fresh_voice
    phases = phases-most v h

    -- the voice in another state
    in-state : (t : State) (evs : List Event) → Sized t → keeps_rules (voice_at m rate t) ≡ true → machine_from y evs ≡ machine_at m rate t
        → Stands m (voice_at m rate t) (machine_from y evs)
    in-state t evs w g e = record { rate = rate; state = t; can = can; sized = w; kept = g; voice-is = refl; machine-is = e }

    -- LAW: one call
    step : (c : VoiceCall) → Stands m (after v c) (machine_from y (fed_by m c))
    unfolding after played reset_of reseed_of retune_of fed_by machine_from move fresh_voice
    step (playing p) =
        let c = call_of p in
        let q = play_question v c (out_length p) in
        let t = block_end (ticking v) c in
        let evs = up_to (λ i. frequency (frequency_at c 0 i)) p.shape.samples in
        let same = ticking-fresh m.kind (entries_in m) rate m.centres few A.as_many can most s in
        let goes : machine_at m rate t ≡ machine_from y evs =
        rw same (view-state_at m.kind (entries_in m) rate m.centres few A.as_many can most s (frequency_at c 0) p.shape.samples z) in
        by-question m q _ v (voice_at m rate t) y evs (question-call v c (out_length p) h) (here rate s can z h)
        (λ e. in-state t evs (state_at-sized (ticking v) (frequency_at c 0) p.shape.samples z) (rw e at (rules-kept v (playing p) W h)) (sym goes))
    step resetting =
        let none = question-none v h in
        by-none m _ v (voice_at m rate first_state) _ none
        (in-state first_state (reset ∷ []) first-sized (rw none at (rules-kept v resetting W h))
        (ap (supplied x) (sym (view_first m.kind (entries_in m) rate m.centres few A.as_many can most phases))))
    step (reseeding n) =
        let none = question-none v h in
        let t = reseeded_state s n in
        by-none m _ v (voice_at m rate t) _ none
        (in-state t (seed n ∷ []) (record { places = refl }) (rw none at (rules-kept v (reseeding n) W h))
        (sym (view-reseed m.kind (entries_in m) rate m.centres few A.as_many can most s n)))
    step (retuning r) =
        let q = ask (keeps_rules v) 13 (rate_question r) in
        let evs = retune r (bands_for m.centres r) ∷ [] in
        let same : retuned v r ≡ voice_at m r s = ap (λ (w : Voice). with_state w s) (retuned-fresh m.kind (entries_in m) rate m.centres (at-rate m.kind (entries_in m) m.rate m.centres A rate can) r) in
        by-question m q _ v (retuned v r) y evs (question-rate v r h) (here rate s can z h)
        (λ e. record {
          rate = r;
          state = s;
          can = rate-yes r (sym (question-rate v r h) ∙ e);
          sized = z;
          kept = subst (λ (w : Voice). keeps_rules w ≡ true) same (rw e at (rules-kept v (retuning r) W h));
          voice-is = same;
          machine-is = refl;
        })

  -- LAW: it stands so after a call, and after any list of calls
  stands_after : (v : Voice) (y : Supplied) (c : VoiceCall) → Stands m v y → Stands m (after v c) (machine_from y (fed_by m c))
  stands_after v y c S = rw (S.voice-is, S.machine-is) (step S.rate S.state S.can S.sized S.kept c)

  pub stands-run : (v : Voice) (y : Supplied) (cs : List VoiceCall) → Stands m v y → Stands m (run v cs) (machine_from y (fed m cs))
  unfolding run fed machine_from
  stands-run v y [] S = S
  stands-run v y (c ∷ cs) S = rw (machine-append y (fed_by m c) (fed m cs)) (stands-run (after v c) (machine_from y (fed_by m c)) cs (stands_after v y c S))

  -- LAW: at first
  pub stands-first : keeps_rules (voice_at m m.rate first_state) ≡ true
      → Stands m (voice_at m m.rate first_state) (supplied (plain_of m) (start_from (plain_of m)))
  unfolding plain_of
  stands-first h = record {
    rate = m.rate;
    state = first_state;
    can = A.rate-ok;
    sized = first-sized;
    kept = h;
    voice-is = refl;
    machine-is = ap (supplied (plain_of m)) (sym (view_first m.kind (entries_in m) m.rate m.centres few A.as_many A.rate-ok (bands-few m.kind (entries_in m) A.sizes) (phases m.rate first_state A.rate-ok first-sized h)));
  }
