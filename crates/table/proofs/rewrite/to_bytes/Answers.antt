use Prim.Native.Nat.{ℕ, ◌≤◌}
use mathlib.Core.Path.{sym, ap, ◌∙◌}
use mathlib.Core.List.{List, ◌++◌}
use native.Mathlib.Omega.{arith}
use lib.ListN.{drop, set, length-set, length-append}
use lib.Seq.{length-take-le}
use Rattle.wire.proofs.CopyLaws.{copied-whole}
use Rattle.table.proofs.Rewritten.{rewrite-small, rewrite-fits}
use Rattle.table.proofs.rewrite.to_bytes.Goals as goal

pub returns-then-target-bytes : goal.returns-then-target-bytes
returns-then-target-bytes c =
    let w = rewrite-small c.args.image.now (λ i. omega (arith, c.type_inv.image i)) c.args.target.now _ _ (sym c.in_ok-counts.ensures) c.if-target-bytes.true in
    record { answered = sym w.0; written = sym w.1 }

pub slice_bounds-copy-end : goal.slice_bounds-copy-end
slice_bounds-copy-end c =
    let w = rewrite-fits c.args.image.now (λ i. omega (arith, c.type_inv.image i)) c.args.target.now _ _ (sym c.in_ok-counts.ensures) c.if-target-bytes.false in
    sym (length-take-le _ c.args.image.now w.inside)

pub slice_bounds-copy-end-3 : goal.slice_bounds-copy-end-3
slice_bounds-copy-end-3 c = sym (length-take-le _ c.args.target.now c.if-target-bytes.false)

pub bounds-target-4 : goal.bounds-target-4
bounds-target-4 c =
    let w = rewrite-fits c.args.image.now (λ i. omega (arith, c.type_inv.image i)) c.args.target.now _ _ (sym c.in_ok-counts.ensures) c.if-target-bytes.false in
    let some : 6 ≤ c.in_ok-counts.counts.end = w.some in
    let k = length-take-le _ c.args.target.now c.if-target-bytes.false in
    omega (arith, length-append c.copy.new.into (drop c.in_ok-counts.counts.end c.args.target.now))

pub bounds-target-5 : goal.bounds-target-5
bounds-target-5 c =
    let w = rewrite-fits c.args.image.now (λ i. omega (arith, c.type_inv.image i)) c.args.target.now _ _ (sym c.in_ok-counts.ensures) c.if-target-bytes.false in
    let some : 6 ≤ c.in_ok-counts.counts.end = w.some in
    let k = length-take-le _ c.args.target.now c.if-target-bytes.false in
    simp length-set (omega (arith, length-append c.copy.new.into (drop c.in_ok-counts.counts.end c.args.target.now)))

pub returns : goal.returns
returns c =
    let w = rewrite-fits c.args.image.now (λ i. omega (arith, c.type_inv.image i)) c.args.target.now _ _ (sym c.in_ok-counts.ensures) c.if-target-bytes.false in
    let even = length-take-le _ c.args.target.now c.if-target-bytes.false ∙ sym (length-take-le _ c.args.image.now w.inside) in
    let whole = copied-whole _ _ even in
    record {
      answered = sym w.answered;
      written = ap (λ (l : List ℕ). set (set (l ++ drop c.in_ok-counts.counts.end c.args.target.now) 4 1) 5 0) (c.copy.ensures ∙ whole) ∙ sym w.written;
    }
