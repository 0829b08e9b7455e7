use Rattle.std.proofs.Common.{◌≡◌, ◌++◌, drop}
use Rattle.player.specs.inner.Passes.{frequency_in, gains_in, noise_of, noise_out}
use Rattle.player.proofs.NoisePass.{BandsAt}
use Rattle.player.proofs.noise.pass.noise_pass.Given as goal

abbrev pub invariant-loop-i : goal.invariant-loop-i
invariant-loop-i l =
    (l.out ≡ noise_out (noise_of l.timbre l.memories l.initial.rng) (frequency_in l.inputs) (gains_in l.inputs) l.initial.out l.i ++ drop l.i l.initial.out)
    × BandsAt (noise_of l.timbre l.memories l.initial.rng) l.live l.i l.bands l.rng l.tuning
