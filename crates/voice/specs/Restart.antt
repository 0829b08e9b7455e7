-- Reset and reseed, with question 13. A refusal returns the voice as given.
use Rattle.std.specs.Prelude.{ℕ}
use Rattle.filters.specs.Rng.{new_rng}
use Rattle.voice.specs.Question.{ask, accepted}
use Rattle.voice.specs.Voice.{keeps_rules, with_state, state_of, first_state, no_memories}
use Rattle.voice.specs.declared.answer.Played.{Played}
use Rattle.voice.specs.declared.voice.State.{State}
use Rattle.voice.specs.declared.voice.Voice.{Voice}

-- reset: phases and memories 0, the default seed, whatever was reseeded
unfoldable pub reset_of : Voice → Played
reset_of v =
    let q = ask (keeps_rules v) 13 0 in
    record { number = q; voice = accepted q (with_state v first_state) v }

-- reseed: the seed is taken, the memories are 0, the phases kept
abbrev pub reseeded_state : State → ℕ → State
reseeded_state s seed = state_of s.phases no_memories (new_rng seed)

unfoldable pub reseed_of : Voice → ℕ → Played
reseed_of v seed =
    let q = ask (keeps_rules v) 13 0 in
    record { number = q; voice = accepted q (with_state v (reseeded_state v.state seed)) v }
