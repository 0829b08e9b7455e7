use mathlib.Core.Path.{refl, sym, ap, ◌∙◌}
use Rattle.wire.proofs.Many.{stand-no, stand-end}
use Rattle.table.specs.Table.{metadata_value}
use Rattle.table.specs.Image.{pair}
use Rattle.table.specs.inner.Answers.{reads, pair_parsed}
use Rattle.table.proofs.BytesLaws.{part-same}
use Rattle.table.proofs.MetadataLaws.{find-here, find-go, next-read, then-read}
use Rattle.table.proofs.metadata.find.Goals as goal

pub pair_by-requires : goal.pair_by-requires
pair_by-requires c =
    λ k. next-read (λ i. pair) c.args.s.now c.loop-i.i c.args.v.pairs c.loop-i.d.at c.loop-i-test.true (c.loop-i.invariant.1 k) (λ a next g more. ap reads g)

pub returns-in_default : goal.returns-in_default
unfolding metadata_value
returns-in_default c =
    sym (sym c.loop-i.invariant.0 ∙ ap (metadata_value c.args.key.now) (stand-no (λ i. pair) _ _ _ _ _ c.loop-i-test.true (sym c.pair_by.ensures ∙ ap (pair_parsed _) c.in_default.is)))

pub returns-then-eq : goal.returns-then-eq
returns-then-eq c =
    sym (sym c.loop-i.invariant.0 ∙ find-here _ _ _ _ _ _ _ c.loop-i-test.true (sym c.in-Ok.ensures) (part-same c.args.s.now _ _ c.args.key.now _ _ _ c.part_of.ensures.bytes refl c.eq.ensures ∙ c.if-eq.true))

pub loop-i-preserved : goal.loop-i-preserved
loop-i-preserved c =
    let g = sym c.in-Ok.ensures in
    (sym (find-go _ _ _ _ _ _ _ c.loop-i-test.true g (part-same c.args.s.now _ _ c.args.key.now _ _ _ c.part_of.ensures.bytes refl c.eq.ensures ∙ c.if-eq.false)) ∙ c.loop-i.invariant.0, λ k. then-read (λ i. pair) c.args.s.now c.loop-i.i c.args.v.pairs c.loop-i.d.at c.loop-i-test.true (c.loop-i.invariant.1 k) _ _ g)

pub returns : goal.returns
unfolding metadata_value
returns c =
    sym (ap (metadata_value c.args.key.now) (stand-end (λ i. pair) _ _ _ _ c.loop-i-test.false)) ∙ c.loop-i.invariant.0
