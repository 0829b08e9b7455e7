use mathlib.Core.Path.{sym, ap, ◌∙◌}
use Prim.Native.Nat.{◌+◌, ◌<◌, ◌^◌}
use native.Mathlib.Omega.{arith}
use lib.Ieee.{of_bits, round}
use Rattle.making.specs.Making.{f32}
use Rattle.making.proofs.CoeffLaws.{coefficient-held, noise-there, noise-lacking}
use Rattle.making.proofs.entry.Entry.noise_coeff.Goals as goal

pub returns-then-b-self : goal.returns-then-b-self
returns-then-b-self c =
    let f : c.args.self.now.view.coefficients < 2 ^ 32 = omega arith in
    c.from_bits.ensures ∙ ap f32 (c.coefficient.ensures ∙ coefficient-held c.args.self.now.image.now c.args.self.now.view c.args.c (c.args.self.now.view.m_partials + c.args.b) _ f c.saturating_add-column.ensures) ∙ sym (noise-there c.args.self.now.image.now c.args.self.now.view _ _ c.if-b-self.true)

pub returns-else-b-self : goal.returns-else-b-self
unfolding of_bits round
returns-else-b-self c =
    sym (noise-lacking c.args.self.now.image.now c.args.self.now.view _ _ c.if-b-self.false)
