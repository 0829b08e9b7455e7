-- Which bands of a blend are live, by one channel more. Assumes nothing.
use Rattle.std.proofs.Common.{◌≡◌, ℕ, zero, suc, ◌-◌, ◌<◌, true, false, refl, ◌∙◌, arith}
use native.Mathlib.Numerals.{sub-one}
use Rattle.table.specs.Table.{PitchEntry}
use Rattle.making.specs.Making.{noise_coeff, is_nonzero, live_in}

-- LAW: a channel in which a band is not 0, looked for from the last of n channels on: found, the band is live
pub live-hit : (e : PitchEntry) (b n q : ℕ) → live_in e b q ≡ live_in e b n → 0 < q → is_nonzero (noise_coeff e (q - 1) b) ≡ true → true ≡ live_in e b n
unfolding live_in
live-hit e b n zero so h t = absurd (omega arith)
live-hit e b n (suc p) so h t =
    let g : is_nonzero (noise_coeff e p b) ≡ true = rw (sub-one (suc p)) at t in
    let s : true ≡ live_in e b (suc p) = rw g refl in
    s ∙ so

-- LAW: where it is 0 in that channel the channels before it decide
pub live-miss : (e : PitchEntry) (b n q : ℕ) → live_in e b q ≡ live_in e b n → 0 < q → is_nonzero (noise_coeff e (q - 1) b) ≡ false → live_in e b (q - 1) ≡ live_in e b n
unfolding live_in
live-miss e b n zero so h t = absurd (omega arith)
live-miss e b n (suc p) so h t =
    let g : is_nonzero (noise_coeff e p b) ≡ false = rw (sub-one (suc p)) at t in
    let s : live_in e b p ≡ live_in e b (suc p) = rw g refl in
    rw (sub-one (suc p)) (s ∙ so)
