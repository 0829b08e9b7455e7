use mathlib.Core.Path.{refl, sym, ◌∙◌}
use Rattle.making.proofs.CoeffLaws.{partials-are}
use Rattle.making.proofs.entry.Entry.phases_for.Goals as goal

pub returns-then-has_channel : goal.returns-then-has_channel
returns-then-has_channel c =
    rw (c.in-Single.is, sym (c.has_channel.ensures c.args.self.now.image.now) ∙ c.if-has_channel.true, partials-are c.args.self.now.image.now c.args.self.now.view) refl

pub returns-else-has_channel : goal.returns-else-has_channel
returns-else-has_channel c =
    rw (c.in-Single.is, sym (c.has_channel.ensures c.args.self.now.image.now) ∙ c.if-has_channel.false) refl
