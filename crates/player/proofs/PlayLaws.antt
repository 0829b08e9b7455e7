-- A play by its questions: refused, it leaves what was given; accepted, what the block leaves.
use Rattle.std.proofs.Common.{◌≡◌, ℕ, zero, suc, refl, sym, ap, ◌∙◌, List, length, ◌≤◌}
use Rattle.std.specs.Prelude.{Float}
use Rattle.voice.specs.Input.{Call}
use Rattle.voice.specs.Voice.{with_state}
use Rattle.voice.specs.Question.{play_question, accepted}
use Rattle.voice.specs.declared.answer.Played.{Played}
use Rattle.voice.specs.declared.voice.Voice.{Voice}
use Rattle.voice.specs.Limits.{max_bands}
use Rattle.voice.proofs.QuestionLaws.{play-accepted}
use Rattle.player.proofs.BandLaws.{bands-most}
use Rattle.player.specs.Bands.{ticking}
use Rattle.player.specs.inner.Passes.{BlockPlayed}
use Rattle.player.specs.Playing.{played, played_out, Plays}

-- the voice after a refused call
kept-voice : (v : Voice) (n : ℕ) (w : Voice) → (n ≡ 0 → ⊥) → ◌≡◌ {A = Played} (record { number = n; voice = v }) (record { number = n; voice = accepted n w v })
kept-voice v zero w h = absurd (h refl)
kept-voice v (suc n) w h = refl

-- the output after one
kept-out : (n : ℕ) (old new : List Float) → (n ≡ 0 → ⊥) → old ≡ accepted n new old
kept-out zero old new h = absurd (h refl)
kept-out (suc n) old new h = refl

-- LAW: a refused play leaves the voice and the output that were given
pub play-refused : (v : Voice) (c : Call) (out : List Float) (n : ℕ) → n ≡ play_question v c (length out) → (n ≡ 0 → ⊥)
    → Plays v c out (record { number = n; voice = v }) out
unfolding played played_out
play-refused v c out n e h = record { answered = rw (sym e) (kept-voice v n _ h); written = rw (sym e) (kept-out n out _ h) }

-- LAW: an accepted play
pub play_done : (v : Voice) (c : Call) (out : List Float) (w : Voice) (ys : List Float) → play_question v c (length out) ≡ 0 → w ≡ with_state v w.state
    → BlockPlayed (ticking v) c w.state ys → Plays v c out (record { number = 0; voice = w }) ys
unfolding played played_out
play_done v c out w ys z e B =
    record { answered = rw z (ap (λ (x : Voice). record { number = 0; voice = x }) (e ∙ ap (with_state v) B.ends)); written = rw z B.written }

-- an accepted play has its bands
pub bands_asked : (v : Voice) (c : Call) (len : ℕ) → play_question v c len ≡ 0 → v.set.j ≤ max_bands
bands_asked v c len h = bands-most v (play-accepted v c len h).0
