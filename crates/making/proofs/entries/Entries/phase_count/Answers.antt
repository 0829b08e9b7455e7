use Rattle.std.proofs.Common.{rules}
use Rattle.making.specs.Making.{phases_for}
use Rattle.making.proofs.entries.Entries.phase_count.Goals as goal

pub returns : goal.returns
returns c = c.most.ensures (phases_for c.args.sounding.kind c.args.sounding.channels) (λ v n k. search rules)
