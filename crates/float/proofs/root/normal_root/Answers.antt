-- `root::normal_root` meets its contract. Assumes nothing.
use mathlib.Core.Path.{sym, subst}
use Prim.Native.Nat.{ℕ, ◌≤◌}
use lib.Ieee.{binary32, fits, to_bits}
use Rattle.float.proofs.Finite.{shown}
use Rattle.float.proofs.Patterns.{normal-range, plain-no-nan, normal-plain}
use Rattle.float.proofs.RootLaws.{significand-small, is-significand}
use Rattle.float.proofs.root.normal_root.Goals as goal

pub float_to_bits-b : goal.float_to_bits-b
float_to_bits-b c = plain-no-nan c.args.x (normal-plain c.args.x c.requires)

pub near-requires : goal.near-requires
near-requires c = record { no_nan = plain-no-nan c.args.x (normal-plain c.args.x c.requires); finite_bits = ((normal-range c.args.x (shown (fits binary32 c.args.x) c.well_formed.0.1) c.requires).1) }

pub packed-requires : goal.packed-requires
packed-requires c =
    let b = (to_bits binary32 c.args.x) in
    (((normal-range c.args.x (shown (fits binary32 c.args.x) c.well_formed.0.1) c.requires).1), subst (λ (h : ℕ). h ≤ 16777216) (sym (is-significand c.quarter.result b c.nearest.result c.quarter.ensures c.nearest.ensures)) (significand-small b))
