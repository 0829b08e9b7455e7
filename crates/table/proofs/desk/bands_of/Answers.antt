use mathlib.Core.Path.{refl, sym, ◌∙◌}
use Rattle.table.proofs.desk.bands_of.Goals as goal

pub returns-then-has_channel : goal.returns-then-has_channel
returns-then-has_channel c =
    λ s. rw (c.in-Single.is, sym (c.has_channel.ensures s) ∙ c.if-has_channel.true) refl

pub returns-else-has_channel : goal.returns-else-has_channel
returns-else-has_channel c =
    λ s. rw (c.in-Single.is, sym (c.has_channel.ensures s) ∙ c.if-has_channel.false) refl
