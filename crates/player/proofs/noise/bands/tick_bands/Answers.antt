-- `tick_bands` meets its contract.
use mathlib.Core.Path.{ap}
use native.Mathlib.Omega.{arith}
use lib.ListN.{length-set}
use Rattle.filters.specs.Biquad.{tick_of}
use Rattle.player.specs.inner.Columns.{state_of_columns, coeffs_of_rows}
use Rattle.filters.specs.declared.biquad.BiquadState.{BiquadState}
use Rattle.player.proofs.ColumnLaws.{kept-all, kept_again, state-kept, ticked-again, ticked-full}
use borrow.Author.Rules.{rules}
use Rattle.player.proofs.noise.bands.tick_bands.Goals as goal

pub loop-l-init : goal.loop-l-init
loop-l-init c =
    (search rules, search rules, search rules, kept-all _, kept-all _, record { at = λ l h. absurd (omega arith) })

pub loop-l-preserved : goal.loop-l-preserved
unfolding tick_of
loop-l-preserved c =
    let a = c.args in
    let s1 = c.loop-l.z1 in
    let s2 = c.loop-l.z2 in
    let l = c.loop-l.l in
    let I = c.loop-l.invariant in
    let C = coeffs_of_rows a.coeffs.now l in (
      simp length-set I.0,
      simp length-set I.1,
      simp length-set I.2,
      kept_again s1 a.z1.now l _ I.3,
      kept_again s2 a.z2.now l _ I.4,
      ticked-again c.loop-l.ys s1 s2 a.z1.now a.z2.now a.coeffs.now a.x l (tick_of (state_of_columns s1 s2 l) a.x C) I.0 I.1 I.2 (omega arith) (ap (λ (m : BiquadState). tick_of m a.x C) (state-kept s1 s2 a.z1.now a.z2.now l I.3 I.4)) I.5,
    )

pub returns : goal.returns
returns c =
    ticked-full c.loop-l.ys c.loop-l.z1 c.loop-l.z2 _ _ _ _ c.loop-l.l _ (omega arith) c.loop-l.invariant.5
