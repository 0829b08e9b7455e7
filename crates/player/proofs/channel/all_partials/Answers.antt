-- `all_partials` meets its contract.
use Rattle.std.proofs.Common.{length, ◌∙◌}
use lib.Ieee.{of_bits, round}
use Rattle.player.specs.inner.Passes.{frequency_in, gains_in, partials_of}
use Rattle.player.proofs.ChannelLaws.{same-phases, no-partials, silence-is}
use Rattle.player.proofs.channel.all_partials.Goals as goal

pub returns-then-timbre-eq0 : goal.returns-then-timbre-eq0
unfolding of_bits round
returns-then-timbre-eq0 c =
    let a = c.args in
    let v = partials_of a.timbre a.phases.now in
    let n = length a.out.now in
    record {
      moves = same-phases v (frequency_in a.inputs) (gains_in a.inputs) c.if-timbre-eq0.true n;
      written = silence-is n _ (c.fill.ensures.after (λ y e. e)) ∙ no-partials v (frequency_in a.inputs) (gains_in a.inputs) c.if-timbre-eq0.true n;
    }
