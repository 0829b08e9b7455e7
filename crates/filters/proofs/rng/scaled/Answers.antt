-- `scaled` meets its contract.
use Rattle.std.proofs.Common.{false, ℤ, negsuc, sym, ap, ◌∙◌, w32}
use lib.Ieee.{Float, fin, binary32, of_bits, of_int, mul}
use mir.ValLaws.{to_z-of_z}
use Rattle.filters.specs.Rng.{signed_of, bipolar_of}
use Rattle.filters.proofs.NoiseLaws.{quotient-is-product, signed-is}
use Rattle.filters.proofs.rng.scaled.Goals as goal

pub returns : goal.returns
unfolding of_bits bipolar_of
returns c =
    ap (λ (z : Float). mul binary32 z (fin false 1 (negsuc 30)))
    (c.nearest_i32_to_f32.ensures ∙ ap (λ (z : ℤ). of_int binary32 z) (to_z-of_z w32 c.cast_signed.result (record { sfits = c.cast_signed.type_inv }) ∙ c.cast_signed.ensures ∙ signed-is c.args.s))
    ∙ sym (quotient-is-product (of_int binary32 (signed_of c.args.s)))
