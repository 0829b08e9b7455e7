-- `roots::faults` meets its contract: a sum that is 0 has no part that is not. Assumes nothing.
use Rattle.std.proofs.Common.{arith, below_more, sym}
use Rattle.std.specs.Float.{nan}
use Rattle.std.proofs.lemmas.Slice.Zip.{zip_turn, zip_end}
use Rattle.std.proofs.lemmas.List.{length_push}
use Rattle.float.proofs.Column.{zipped}
use Rattle.float.proofs.roots.faults.Goals as goal

pub loop-x-preserved : goal.loop-x-preserved
loop-x-preserved c =
    let t = zip_turn c.args.xs.now c.args.roots.now c.loop-x.yielded c.into_iter-x-iterator.result c.loop-x.x-iterator c.next.new.self c.next.result (cc) (cc) c.loop-x.yielded_by (c.in-Some.x, c.in-Some.y) c.in-Some.is c.next.ensures.steps in
    let n = length_push c.loop-x.yielded (c.in-Some.x, c.in-Some.y) in
    rw n (omega arith, λ e. below_more _ _ (c.loop-x.invariant.1 (omega arith)) (rw (sym (t.2 nan), sym (t.3 nan)) (c.fault-sum.ensures.1 (omega arith))))

pub returns : goal.returns
returns c =
    let e = zip_end c.args.xs.now c.args.roots.now c.loop-x.yielded c.into_iter-x-iterator.result c.loop-x.x-iterator c.next.new.self c.next.result (cc) (cc) c.loop-x.yielded_by c.in-None.is c.next.ensures.steps in
    λ z. zipped _ _ _ c.requires.as_long (λ i l. c.loop-x.invariant.1 z i (omega (arith, e, c.requires.as_long)))
