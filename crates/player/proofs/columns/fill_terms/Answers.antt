-- `fill_terms` meets its contract.
use Rattle.std.proofs.Common.{arith, refl, get_or}
use Rattle.std.specs.Float.{nan}
use lib.Ieee.{of_bits, round, neg}
use lib.ListN.{length-set}
use Rattle.player.proofs.ColumnLaws.{silent-again, audible-again, filled-full}
use Rattle.player.proofs.columns.fill_terms.Goals.{then-coeffs-i, else-coeffs-i}
use Rattle.player.proofs.columns.fill_terms.Goals as goal

pub loop-i-preserved : goal.loop-i-preserved
unfolding of_bits round neg
loop-i-preserved g c =
    let i = c.loop-i.i in
    let r = get_or c.args.coeffs.now i nan in
    let h = c.loop-i.invariant.0 in
    elim c.if-coeffs-i.branch [
      | then-coeffs-i w ↦ (rw w.terms-is (simp length-set h), λ f G. rw w.terms-is (silent-again _ c.loop-i.terms i r (f i) _ _ (omega arith) refl w.if-coeffs-i.true refl (c.loop-i.invariant.1 f G)))
      | else-coeffs-i w ↦ (rw w.terms-is (simp length-set h), λ f G. rw w.terms-is (audible-again _ c.loop-i.terms i r (f i) _ (omega arith) refl w.if-coeffs-i.false (G i c.term.result (omega arith) c.term.ensures) (c.loop-i.invariant.1 f G)))
    ]

pub returns : goal.returns
returns g c = λ f G. filled-full _ c.loop-i.terms c.loop-i.i _ (omega arith) (c.loop-i.invariant.1 f G)
