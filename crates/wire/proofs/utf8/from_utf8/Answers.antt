-- By the library's answer alone, however the code makes a bool of it.
use Prim.Native.Nat.{ℕ, ◌-◌}
use mathlib.Core.Path.{◌≡◌, sym, ap, ◌∙◌}
use mathlib.Core.List.{List}
use native.Mathlib.Omega.{arith}
use lib.ListN.{length, take, drop, length-drop}
use lib.Seq.{take-length}
use Rattle.std.proofs.lemmas.Result.{MatchResult-weaker}
use Rattle.wire.specs.Utf8.{utf8}
use Rattle.wire.proofs.Utf8Laws.{tested}
use Rattle.wire.proofs.utf8.from_utf8.Goals as goal

-- a slice from n on is all that is left
rest_whole : (n : ℕ) (s : List ℕ) → take (length s - n) (drop n s) ≡ drop n s
rest_whole n s = ap (λ (k : ℕ). take k (drop n s)) (sym (length-drop n s)) ∙ take-length (drop n s)

pub returns : goal.returns
returns c =
    let r = c.from_utf8.result in
    let s = c.args.s.now in
    let n = c.past_plain.result in
    let e : c.is_ok.result ≡ utf8 s =
    c.is_ok.ensures.value
    ∙ tested (take (length s - n) (drop n s)) r (MatchResult-weaker r c.from_utf8.ensures (λ x h. h.1) (λ y h. h))
    ∙ ap utf8 (rest_whole n s)
    ∙ c.past_plain.ensures.1 in
    grind (arith, e)
