-- `fault::square_fault` meets its contract. Assumes nothing.
use mathlib.Core.Path.{◌≡◌, refl}
use Prim.Native.Nat.{ℕ, ◌+◌, ◌-◌, ◌*◌, ◌/◌, ◌^◌, ◌≤◌, ◌<◌}
use native.Mathlib.Omega.{arith}
use Rattle.float.specs.Sqrt.{scaled}
use Rattle.float.proofs.RootLaws.{quartered}
use Rattle.float.proofs.Tested.{beyond, square-small, faultless}
use Rattle.float.proofs.fault.square_fault.Goals as goal

-- h, its square s, and n, in their ranges
record Ranges (s h n : ℕ) : Type 0 where
  square : s ≤ 2147483648 * 2147483648
  side : h < 2147483648
  number : n < 2 ^ 48

h-small : (b p : ℕ) → beyond b p < 2147483648
h-small b p = omega arith

ranges : (b p n : ℕ) → 4 * n ≡ scaled b → Ranges (beyond b p * beyond b p) (beyond b p) n
ranges b p n e = let u = h-small b p in record { square = square-small (beyond b p) u; side = u; number = (quartered n b e).0 }

-- how many, and what none says
module _ (s h n : ℕ) (r : Ranges s h n) where
  few : (9223372036854775808 + s - (n + h)) / 9223372036854775808 + (9223372036854775807 + n - (s + h)) / 9223372036854775808 ≤ 2
  few = omega arith

  below : (9223372036854775808 + s - (n + h)) / 9223372036854775808 + (9223372036854775807 + n - (s + h)) / 9223372036854775808 ≡ 0 → s < n + h
  below e = omega arith

  over : (9223372036854775808 + s - (n + h)) / 9223372036854775808 + (9223372036854775807 + n - (s + h)) / 9223372036854775808 ≡ 0 → n ≤ s + h
  over e = omega arith

pub returns : goal.returns
returns c =
    let a = c.args in
    let r = (ranges c.args.b c.args.p c.quarter-n.result c.quarter-n.ensures) in
    (few _ _ _ r, λ e. faultless a.b a.p c.quarter-n.result (beyond c.args.b c.args.p) c.requires.0 c.requires.1 c.quarter-n.ensures refl (below _ _ _ r e) (over _ _ _ r e))
