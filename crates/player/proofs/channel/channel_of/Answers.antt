-- `channel_of` meets its contract.
use Rattle.std.proofs.Common.{◌≡◌, length, sym, arith, ◌∙◌}
use borrow.Author.Tests.{eq-eqb, ne_eqb}
use lib.Ieee.{of_bits, round}
use Rattle.std.proofs.lemmas.Grind.{common_steps}
use Rattle.player.specs.inner.Passes.{frequency_in, gains_in}
use Rattle.player.proofs.ChannelLaws.{silence-is, toned-still, toned-partials, toned-noisy}
use Rattle.player.proofs.BandLaws.{entries-ticked, phases-ticked}
use Rattle.player.proofs.channel.channel_of.Goals as goal

pub all_partials-requires : goal.all_partials-requires
all_partials-requires c =
    let a = c.args in
    let V = c.requires.0 in
    let set = a.timbre.set.now in
    (entries-ticked set a.timbre.lists.now V.entries, phases-ticked set a.state.now.phases V.phases-ok, omega arith, c.requires.1)

pub noise_pass-rng-requires : goal.noise_pass-rng-requires
noise_pass-rng-requires c =
    let a = c.args in
    let V = c.requires.0 in
    (entries-ticked a.timbre.set.now a.timbre.lists.now V.entries, V.live-bands, c.live_of-live.ensures, omega arith, c.requires.1)

pub returns-then-timbre-eq0 : goal.returns-then-timbre-eq0
unfolding of_bits round
returns-then-timbre-eq0 c =
    let a = c.args in
    let n = length a.out.now in
    toned-still a.timbre a.state.now (frequency_in a.inputs) (gains_in a.inputs) n (eq-eqb _ _ c.if-timbre-eq0.true) _
    (silence-is n _ (c.fill.ensures.after (λ y e. e)))

pub returns-then-is_empty : goal.returns-then-is_empty
returns-then-is_empty c =
    let a = c.args in
    let none : length c.live_of-live.result.now ≡ 0 = grind (arith, common_steps) in
    toned-partials a.timbre a.state.now (frequency_in a.inputs) (gains_in a.inputs) (length a.out.now) (ne_eqb _ _ c.if-timbre-eq0.false)
    (sym c.live_of-live.ensures.count ∙ none) _ _ c.all_partials.ensures

pub returns : goal.returns
returns c =
    let a = c.args in
    toned-noisy a.timbre a.state.now (frequency_in a.inputs) (gains_in a.inputs) (length a.out.now) (ne_eqb _ _ c.if-timbre-eq0.false) _ _ _ _ _
    c.all_partials.ensures c.noise_pass-rng.ensures
