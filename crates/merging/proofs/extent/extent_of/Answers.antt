use mathlib.Core.Path.{ap, ◌∙◌}
use Prim.Native.Nat.{ℕ, ◌+◌}
use Rattle.merging.proofs.HeadLaws.{start-there, start-read}
use Rattle.merging.proofs.extent.extent_of.Goals as goal

pub number_at-n-requires : goal.number_at-n-requires
number_at-n-requires c =
    start-there c.args.image.now c.args.read.entries c.args.read.end c.requires

pub returns : goal.returns
returns c =
    record { accepted = c.requires; start = ap (λ (n : ℕ). 14 + n) (c.number_at-n.ensures ∙ start-read c.args.image.now c.args.read.entries c.args.read.end c.requires) }
