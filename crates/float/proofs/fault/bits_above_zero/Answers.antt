-- `fault::bits_above_zero` meets its contract. Assumes nothing.
use mathlib.Core.Path.{sym, ap}
use mathlib.Core.Bool.{Bool, cond}
use lib.Ieee.{binary32, fits, to_bits, of_bits}
use Rattle.float.proofs.Finite.{shown}
use Rattle.float.proofs.Tested.{above-bits}
use Rattle.float.proofs.fault.bits_above_zero.Goals as goal

pub returns-then-x : goal.returns-then-x
unfolding of_bits
returns-then-x c = let x = c.args.x in (sym (ap (λ (t : Bool). cond t (to_bits binary32 x) 0) c.if-x.true), above-bits x (shown (fits binary32 c.args.x) c.well_formed.0.1) c.if-x.true)
