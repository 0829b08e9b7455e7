-- A turn of the ring: t is what the tick of sample i gives.
use Rattle.std.proofs.Common.{◌≡◌, ℕ, zero, suc, ◌+◌, ◌<◌, true, ◌&&◌, T, sym, ap, ◌∙◌, subst, lt_irrefl, add-one}
use lib.Ieee.{Float, binary32, round}
use lib.Ieee.Fits.{and_l, and_r, mul-fits, sub-fits}
use Rattle.float.specs.F32.{◌⊕◌, ◌⊖◌, ◌⊗◌, quotient}
use Rattle.filters.specs.Biquad.{tick_of}
use Rattle.filters.specs.Compensation.{impulse, rung_state, rung_output, rung_power}
use Rattle.filters.specs.inner.Quiet.{is_plus_zero, quiet}
use Rattle.filters.proofs.ZeroLaws.{less-is, plus-zero-is}
use Rattle.filters.specs.declared.biquad.BiquadCoeffs.{BiquadCoeffs}
use Rattle.filters.specs.declared.biquad.BiquadState.{BiquadState}
use Rattle.filters.specs.declared.biquad.Tick.{Tick}

pub rung-state : (c : BiquadCoeffs) (i : ℕ) (s : BiquadState) (x : Float) (t : Tick) → s ≡ rung_state c i → x ≡ impulse i → t ≡ tick_of s x c → t.state ≡ rung_state c (i + 1)
unfolding rung_state
rung-state c i s x t e f g = rw (g, e, f, add-one i)

pub rung-power : (c : BiquadCoeffs) (i : ℕ) (s : BiquadState) (p x : Float) (t : Tick) → s ≡ rung_state c i → p ≡ rung_power c i → x ≡ impulse i → t ≡ tick_of s x c → p ⊕ t.y ⊗ t.y ≡ rung_power c (i + 1)
unfolding rung_power
rung-power c i s p x t e h f g = rw (g, e, f, h, add-one i)

pub impulse-over : (i : ℕ) → quotient 0 1 ≡ impulse (i + 1)
impulse-over i = rw (add-one i)

-- ---- A quiet band, from its second sample on: y is output i, and z is z2 with the sign of a -0 taken off.
quiet-zeros : (c : BiquadCoeffs) → quiet c ≡ true → (c.b0 ⊗ quotient 0 1 ≡ quotient 0 1) × (c.b1 ⊗ quotient 0 1 ≡ quotient 0 1)
unfolding quiet
quiet-zeros c h =
    let x = c.b0 ⊗ quotient 0 1 in
    let y = c.b1 ⊗ quotient 0 1 in
    let t : T (is_plus_zero x && is_plus_zero y) = subst T (sym h) tt in
    (plus-zero-is x (mul-fits binary32 _ _) (and_l (is_plus_zero x) (is_plus_zero y) t), plus-zero-is y (mul-fits binary32 _ _) (and_r (is_plus_zero x) (is_plus_zero y) t))

pub quiet-output : (c : BiquadCoeffs) (i : ℕ) (y z : Float) → quiet c ≡ true → 0 < i → y ≡ rung_output c i → z ≡ (rung_state c i).z2 ⊕ quotient 0 1 → z ⊖ c.a1 ⊗ y ≡ rung_output c (i + 1)
unfolding rung_state tick_of round
quiet-output c zero y z h l e f = absurd (lt_irrefl 0 l)
quiet-output c (suc i) y z h l e f =
    let o = quotient 0 1 in
    let s = (rung_state c (suc i)).z2 in
    let w = c.a1 ⊗ rung_output c (suc i) in
    let k = quiet-zeros c h in
    ap (λ (x : Float). x ⊖ c.a1 ⊗ y) f
    ∙ ap (λ (x : Float). s ⊕ o ⊖ c.a1 ⊗ x) e
    ∙ sym (less-is w s (mul-fits binary32 _ _) (sub-fits binary32 _ _))
    ∙ ap (λ (x : Float). x ⊕ (o ⊖ w ⊕ s)) (sym k.0)
    ∙ ap (λ (x : Float). c.b0 ⊗ o ⊕ (x ⊖ w ⊕ s)) (sym k.1)
    ∙ ap (λ (n : ℕ). rung_output c n) (sym (add-one (suc i)))

pub quiet-memory : (c : BiquadCoeffs) (i : ℕ) (y : Float) → 0 < i → y ≡ rung_output c i → c.b2 ⊗ quotient 0 1 ⊖ c.a2 ⊗ y ⊕ quotient 0 1 ≡ (rung_state c (i + 1)).z2 ⊕ quotient 0 1
unfolding rung_state tick_of
quiet-memory c zero y l e = absurd (lt_irrefl 0 l)
quiet-memory c (suc i) y l e = rw (e, add-one (suc i))

pub quiet-power : (c : BiquadCoeffs) (i : ℕ) (p y : Float) → p ≡ rung_power c i → y ≡ rung_output c i → p ⊕ y ⊗ y ≡ rung_power c (i + 1)
unfolding rung_power
quiet-power c i p y e f = rw (e, f, add-one i)
