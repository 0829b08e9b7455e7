-- `put_list` meets its contract.
use Rattle.std.proofs.Common.{◌≡◌, ◌+◌, ◌-◌, ◌*◌, arith, rules, lt-ltb, le-ltb}
use lib.Seq.{drop-drop}
use Rattle.voice.specs.Voice.{with_list}
use Rattle.voice.proofs.lists.put_list.Goals as goal

pub returns-then-n-lt-SHORT_LISTS : goal.returns-then-n-lt-SHORT_LISTS
unfolding with_list
returns-then-n-lt-SHORT_LISTS c =
    let n = c.args.n in
    let q : n * 16 + 16 - n * 16 ≡ 16 = omega arith in
    (rw (lt-ltb n 11 c.if-n-lt-SHORT_LISTS.true, c.copy_from_slice.ensures.after, q, drop-drop 16 (n * 16) c.args.lists), search rules)

pub returns-else-n-lt-SHORT_LISTS : goal.returns-else-n-lt-SHORT_LISTS
unfolding with_list
returns-else-n-lt-SHORT_LISTS c = (rw (le-ltb c.args.n 11 c.if-n-lt-SHORT_LISTS.false), search rules)
