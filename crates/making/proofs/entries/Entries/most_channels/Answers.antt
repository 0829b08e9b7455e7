use Rattle.std.proofs.Common.{rules}
use Rattle.table.specs.Table.{PitchEntry}
use Rattle.making.proofs.entries.Entries.most_channels.Goals as goal

pub returns : goal.returns
returns c = c.most.ensures (λ (e : PitchEntry). e.k_channels) (λ v n k. search rules)
