-- `short_list` meets its contract.
use Rattle.std.proofs.Common.{◌≡◌, ℕ, ◌+◌, ◌-◌, ◌*◌, take, drop, ap, ◌∙◌, arith}
use Rattle.voice.proofs.PutLaws.{list-is}
use Rattle.voice.proofs.lists.short_list.Goals as goal

pub returns-clause-list : goal.returns-clause-list
returns-clause-list c =
    let n = c.args.n in
    let xs = c.args.lists.now in
    let q : n * 16 + 16 - n * 16 ≡ 16 = omega arith in
    ap (λ (k : ℕ). take k (drop (n * 16) xs)) q ∙ list-is xs n (omega (arith, c.told-lists))
