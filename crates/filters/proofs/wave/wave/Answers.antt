-- `wave` meets its contract, a quarter at a time.
use Rattle.std.proofs.Common.{◌≡◌, ◌<◌, ℤ, sym, ◌∙◌, arith, w32, to_z, of_z}
use lib.Signed.{mag}
use mir.ValLaws.{to_z-of_z}
use Rattle.filters.proofs.Quarters.{first, second, third, fourth}
use Rattle.filters.proofs.wave.wave.Goals as goal

-- an i32 that a call answered is read as it is
back : (z : ℤ) → mag z < 2147483648 → to_z w32 (of_z w32 z) ≡ z
back z h = to_z-of_z w32 z (record { sfits = h })

pub returns-in-0-to-256 : goal.returns-in-0-to-256
returns-in-0-to-256 c = back _ c.quarter.type_inv ∙ c.quarter.ensures ∙ sym (first _ _ (omega arith))

pub returns-in-257-to-512 : goal.returns-in-257-to-512
returns-in-257-to-512 c =
    back _ c.quarter-in-257-to-512.type_inv ∙ c.quarter-in-257-to-512.ensures ∙ sym (second _ _ (omega arith) (omega arith))

pub returns-in-513-to-768 : goal.returns-in-513-to-768
returns-in-513-to-768 c =
    back _ c.quarter-in-513-to-768.type_inv ∙ c.quarter-in-513-to-768.ensures ∙ sym (third _ _ (omega arith) (omega arith) (omega arith))

pub returns-in_default : goal.returns-in_default
returns-in_default c =
    back _ c.quarter-in_default.type_inv ∙ c.quarter-in_default.ensures ∙ sym (fourth _ _ (omega arith) (omega arith) (omega arith))
