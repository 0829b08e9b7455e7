-- `put_bands` meets its contract.
use Rattle.std.proofs.Common.{◌≡◌, ℕ, ◌+◌, ◌-◌, ◌*◌, List, ◌++◌, take, drop, get_or, refl, ap, ◌∙◌, arith, rules}
use lib.Seq.{drop-drop}
use Rattle.std.specs.Float.{Float}
use Rattle.filters.specs.Band.{zero_coeffs}
use Rattle.voice.specs.Lists.{join_to}
use Rattle.voice.specs.Bands.{coeff_floats}
use Rattle.filters.specs.declared.biquad.BiquadCoeffs.{BiquadCoeffs}
use Rattle.voice.proofs.Loops.{read-any}
use Rattle.voice.proofs.PutLaws.{put-start, bands-again, put-end}
use Rattle.voice.proofs.bands.put_bands.Goals as goal

pub loop-b-init : goal.loop-b-init
unfolding join_to
loop-b-init c = put-start c.args.lists 64 64 refl

pub loop-b-preserved : goal.loop-b-preserved
loop-b-preserved c =
    let b = c.loop-b.b in
    let q : 64 + b * 5 + 5 - (64 + b * 5) ≡ 5 = omega arith in
    bands-again c.args.bands c.args.lists c.loop-b.lists _ 64 b (search rules) c.loop-b.invariant
    (rw (c.copy_from_slice.ensures.after, q, drop-drop 5 (64 + b * 5) c.loop-b.lists)
    (ap (λ (x : BiquadCoeffs). take (64 + b * 5) c.loop-b.lists ++ (coeff_floats x ++ drop (64 + b * 5 + 5) c.loop-b.lists)) (read-any c.args.bands b _ zero_coeffs (search rules))))

pub returns : goal.returns
returns c =
    let q : c.loop-b.b ≡ 16 = omega arith in
    let f : ℕ → List Float = λ i. coeff_floats (get_or c.args.bands i zero_coeffs) in
    put-end (join_to f 16) c.args.lists c.loop-b.lists 64 (64 + c.loop-b.b * 5) 144 (omega arith)
    (c.loop-b.invariant ∙ ap (λ n. (take 64 c.args.lists ++ join_to f n) ++ drop (64 + c.loop-b.b * 5) c.args.lists) q)
