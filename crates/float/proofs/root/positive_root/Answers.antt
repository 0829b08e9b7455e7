-- `float::root::positive_root` meets its contract. Assumes nothing.
use mathlib.Core.Path.{sym, ap, ◌∙◌}
use mathlib.Core.Bool.{Bool, false, cond}
use lib.IntN.{pos, negsuc}
use lib.Ieee.{Float, fin, binary32, fits, mul, of_bits}
use Rattle.float.specs.Sqrt.{normal_root}
use Rattle.float.proofs.Finite.{shown}
use Rattle.float.proofs.Subnormal.{positive-plain, normal-from, normal-scaled}
use Rattle.float.proofs.root.positive_root.Goals as goal

abbrev picked : Float → Bool → Float
picked x a = cond a (mul binary32 (normal_root (mul binary32 x (fin false 1 (pos 24)))) (fin false 1 (negsuc 11))) (normal_root x)

pub normal_root-requires : goal.normal_root-requires
unfolding of_bits
normal_root-requires c =
    normal-scaled c.args.x (shown (fits binary32 c.args.x) c.well_formed.0.1) c.requires (shown _ c.if-x.true)

pub returns-then-x : goal.returns-then-x
unfolding of_bits
returns-then-x c =
    ap (λ (z : Float). mul binary32 z (fin false 1 (negsuc 11))) c.normal_root.ensures ∙ sym (ap (λ (b : Bool). picked c.args.x b) c.if-x.true)

pub normal_root-requires-2 : goal.normal_root-requires-2
unfolding of_bits
normal_root-requires-2 c = normal-from c.args.x (positive-plain c.args.x c.requires) c.if-x.false

pub returns : goal.returns
unfolding of_bits
returns c =
    c.normal_root-2.ensures ∙ sym (ap (λ (b : Bool). picked c.args.x b) c.if-x.false)
