-- `list_of` meets its contract.
use Rattle.std.proofs.Common.{ℕ, ◌+◌, ◌*◌, get_or, sym, arith}
use lib.ListN.{get_or-eq_default}
use lib.Ieee.{Float, nan, of_bits}
use Rattle.voice.specs.Lists.{up_to}
use Rattle.voice.specs.Voice.{list_at}
use Rattle.voice.proofs.Loops.{up_to-as}
use Rattle.voice.proofs.lists.list_of.Goals as goal

pub returns-else-n-lt-SHORT_LISTS : goal.returns-else-n-lt-SHORT_LISTS
unfolding list_at up_to of_bits
returns-else-n-lt-SHORT_LISTS c =
    let f : ℕ → Float = λ i. get_or c.args.lists.now (c.args.n * 16 + i) nan in
    sym (up_to-as f (λ i. nan) 16 (λ i l. get_or-eq_default c.args.lists.now nan (omega (arith, c.if-n-lt-SHORT_LISTS.false, c.told-lists))))
