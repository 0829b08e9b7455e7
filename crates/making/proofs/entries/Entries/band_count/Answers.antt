use Rattle.std.proofs.Common.{◌∙◌, rules}
use Rattle.table.specs.Desk.{bands_of}
use Rattle.making.specs.inner.Views.{entries_in}
use Rattle.making.proofs.ViewLaws.{most-bands}
use Rattle.making.proofs.entries.Entries.band_count.Goals as goal

pub returns : goal.returns
returns c = c.most.ensures (bands_of c.args.kind) (λ v n k. search rules) ∙ most-bands c.args.kind (entries_in c.args.self.now)
