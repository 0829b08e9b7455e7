use mathlib.Core.Path.{sym, ap, ◌∙◌}
use Rattle.wire.specs.Cursor.{read_parsed}
use Rattle.wire.proofs.Found.{u32-is}
use Rattle.merging.proofs.SkipLaws.{never-refused, number-there}
use Rattle.merging.proofs.skip.number_at.Goals as goal

pub unwrap-requires : goal.unwrap-requires
unwrap-requires c =
    never-refused _ (λ e h. number-there c.args.s.now c.args.at _ c.requires (sym c.u32.ensures ∙ ap read_parsed h))

pub returns : goal.returns
returns c =
    (u32-is c.args.s.now c.args.at _ _ (sym c.u32.ensures ∙ ap read_parsed c.unwrap.ensures)).value
