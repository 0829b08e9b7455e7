use mathlib.Core.Path.{◌≡◌, sym, ap, ◌∙◌}
use native.Mathlib.Omega.{arith}
use lib.ListN.{length, set, length-set}
use lib.Seq.{set_out}
use Rattle.std.proofs.lemmas.Result.{err_from_is_err_and}
use Rattle.table.proofs.SizeLaws.{view-reads}
use Rattle.table.proofs.SpanLaws.{entries-go, entries-no, entries-end}
use Rattle.table.proofs.ViewsLaws.{put-again, put-no, put-end}
use Rattle.table.proofs.entries.entries_at.Goals as goal
use Rattle.table.proofs.entries.entries_at.Goals.{then-i, else-i}

pub span_of-requires : goal.span_of-requires
span_of-requires g c =
    λ k. view-reads c.loop-i.i _ _ _ _ (sym c.in_ok-v.ensures.means) c.in_ok-v.ensures.placed

pub returns-in_err-v : goal.returns-in_err-v
returns-in_err-v g c =
    let p = err_from_is_err_and c.from_residual.result c.from_residual.ensures.1 in
    rw (p.1, p.2) (record { reading = sym (sym c.loop-i.invariant.0 ∙ entries-no _ _ _ _ _ _ c.loop-i-test.true (sym c.in_err-v.ensures.means)); kept = sym (put-no _ c.loop-i.views c.loop-i.i _ _ _ c.loop-i-test.true (sym c.in_err-v.ensures.means)) ∙ c.loop-i.invariant.2 })

pub loop-i-preserved : goal.loop-i-preserved
loop-i-preserved g c =
    let e = sym c.in_ok-v.ensures.means in
    let long : length c.loop-i.views ≡ g.row.N = c.loop-i.invariant.1 in
    let kept : c.if-i.views ≡ set c.loop-i.views c.loop-i.i c.in_ok-v.v =
    elim c.if-i.branch [ then-i w ↦ w.views-is | else-i w ↦ w.views-is ∙ sym (set_out c.loop-i.views c.loop-i.i _ (omega arith)) ] in (
      rw (c.judge-j.ensures, c.span_of.ensures) (sym (entries-go _ _ _ _ _ _ _ c.loop-i-test.true e) ∙ c.loop-i.invariant.0),
      ap length kept ∙ simp length-set long,
      rw kept (sym (put-again _ c.loop-i.views c.loop-i.i _ _ _ _ c.loop-i-test.true e c.in_ok-v.ensures.placed) ∙ c.loop-i.invariant.2),
    )

pub returns : goal.returns
returns g c = record {
  reading = c.conclude.ensures ∙ sym (entries-end _ _ _ _ _ c.loop-i.auto.i-end c.loop-i-test.false) ∙ c.loop-i.invariant.0;
  kept = sym (put-end _ c.loop-i.views c.loop-i.i _ _ c.loop-i-test.false) ∙ c.loop-i.invariant.2;
}
