use mathlib.Core.Path.{ap, sym, ◌∙◌}
use Rattle.table.specs.Answer.{entry_parsed}
use Rattle.merging.proofs.ImageLaws.{holds-of}
use Rattle.merging.proofs.JoinedLaws.{no-first, no_second, first_read, second-read, both-asked}
use Rattle.merging.proofs.SkipLaws.{never-refused}
use Rattle.merging.proofs.spans.joined_agree.Goals as goal
use Rattle.merging.proofs.spans.joined_agree.Goals.{then-x-eq0-via-then-x-eq0, then-x-eq0-via-else-x-eq0+then-y-eq0}

pub returns-then-x-eq0 : goal.returns-then-x-eq0
returns-then-x-eq0 c =
    elim c.then-x-eq0.branch [
      | then-x-eq0-via-then-x-eq0 w ↦ no-first _ _ _ _ (holds-of c.args.tables.first) (holds-of c.args.tables.second) w.if-x-eq0.true
      | then-x-eq0-via-else-x-eq0+then-y-eq0 w ↦ no_second _ _ _ _ (holds-of c.args.tables.first) (holds-of c.args.tables.second) w.if-y-eq0.true
    ]

pub unwrap-v-requires : goal.unwrap-v-requires
unwrap-v-requires c =
    never-refused _ (λ e h. first_read _ _ _ _ (holds-of c.args.tables.first) (holds-of c.args.tables.second) _ c.if-x-eq0.false (sym c.entry_at.ensures.means ∙ ap (entry_parsed _) h))

pub unwrap-w-requires : goal.unwrap-w-requires
unwrap-w-requires c =
    never-refused _ (λ e h. second-read _ _ _ _ (holds-of c.args.tables.first) (holds-of c.args.tables.second) _ c.if-y-eq0.false (sym c.entry_at-2.ensures.means ∙ ap (entry_parsed _) h))

pub returns : goal.returns
returns c =
    c.spans_agree.ensures
    ∙ both-asked _ _ _ _ (holds-of c.args.tables.first) (holds-of c.args.tables.second) _ _ _ _ c.if-x-eq0.false c.if-y-eq0.false (sym c.entry_at.ensures.means ∙ ap (entry_parsed _) c.unwrap-v.ensures) (sym c.entry_at-2.ensures.means ∙ ap (entry_parsed _) c.unwrap-w.ensures)
