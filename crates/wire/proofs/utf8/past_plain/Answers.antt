use Prim.Native.Nat.{ℕ, ◌+◌, ◌*◌, ◌≤◌}
use mathlib.Core.Path.{◌≡◌, sym, ap, ◌∙◌}
use native.Mathlib.Omega.{arith}
use lib.ListN.{length, drop}
use Rattle.wire.specs.Utf8.{utf8}
use Rattle.wire.proofs.Laws.{octets-plain}
use Rattle.wire.proofs.utf8.past_plain.Goals as goal

pub loop-k-preserved : goal.loop-k-preserved
loop-k-preserved c =
    let s = c.args.s.now in
    let at = c.loop-k.k * 64 in
    let l : at + 64 ≤ length s = omega arith in
    let e : (c.loop-k.k + 1) * 64 ≡ at + 64 = omega arith in
    ap (λ (n : ℕ). utf8 (drop n s)) e ∙ sym (octets-plain s 64 at c.highest.result l c.if-highest-ge128.false c.highest.ensures) ∙ c.loop-k.invariant
