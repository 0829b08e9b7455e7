-- `tune` meets its contract.
use Rattle.std.proofs.Common.{◌∙◌, arith}
use Rattle.std.specs.Prelude.{Float}
use lib.Ieee.{of_bits, round, le}
use Rattle.float.specs.F32.{quotient}
use Rattle.player.proofs.ColumnLaws.{first-every}
use Rattle.player.proofs.PartialLaws.{tuned-is}
use Rattle.player.proofs.tuning.Tuning.tune.Goals as goal

pub returns : goal.returns
unfolding of_bits round
returns c =
    let P = c.pitch_at-p.ensures in
    let N = c.requires.counts_in in
    tuned-is c.args.x c.args.entries.now c.args.partials.now c.args.f0 c.pitch_at-p.result _ _ _ _ _ _
    (P.at, P.sides-are, P.stretch-is, P.mainlobe-is) P.small c.requires.entries_in.0.1 N.2 N.0
    c.rows.ensures.0 c.steps_of.ensures.frequencies c.steps_of.ensures.steps c.fades_of.ensures c.rows_of.ensures
    (c.all_up_to-self.ensures ∙ first-every (λ (x : Float). le x (quotient 31 32)) _ c.args.x.m (omega arith))
