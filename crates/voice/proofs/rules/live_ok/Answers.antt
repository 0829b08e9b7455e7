-- `live_ok` meets its contract.
use Rattle.std.proofs.Common.{ltb, sym, ◌∙◌, rules}
use Rattle.voice.specs.Voice.{live_ok}
use Rattle.voice.proofs.Loops.{every-front, every-pair}
use Rattle.voice.proofs.rules.live_ok.Goals as goal

pub returns-then-all_of : goal.returns-then-all_of
unfolding live_ok
returns-then-all_of c =
    let s = c.args.set in
    let below = c.all_of.ensures (λ b. ltb b s.j) 0 (λ i r l h. search rules) ∙ every-front 0 s.live s.live_count (search rules) (λ b. ltb b s.j) in
    let order = c.ascend.ensures ltb 0 (λ i r l h. search rules) ∙ every-pair 0 s.live s.live_count (search rules) ltb in
    rw (sym below ∙ c.if-all_of.true) order

pub returns-else-all_of : goal.returns-else-all_of
unfolding live_ok
returns-else-all_of c =
    let s = c.args.set in
    let below = c.all_of.ensures (λ b. ltb b s.j) 0 (λ i r l h. search rules) ∙ every-front 0 s.live s.live_count (search rules) (λ b. ltb b s.j) in
    rw (sym below ∙ c.if-all_of.false) c.if-all_of.false
