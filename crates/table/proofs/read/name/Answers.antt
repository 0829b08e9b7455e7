use mathlib.Core.Path.{refl, sym, ap, ◌∙◌}
use Prim.Native.Nat.{ℕ, ◌+◌}
use native.Mathlib.Omega.{arith}
use Rattle.table.specs.Decode.{name_of}
use Rattle.table.specs.Name.{name_start}
use Rattle.table.proofs.AcceptedLaws.{header-none, header-some, name-starts}
use Rattle.table.proofs.read.name.Goals as goal

pub returns-in-Ok : goal.returns-in-Ok
returns-in-Ok c =
    header-some _ _ _ (sym c.in-Ok.ensures.means) λ e g p.
    record { bytes = c.part_of.ensures.bytes ∙ ap name_of (sym p); placed = (c.part_of.ensures.placed.0, c.part_of.ensures.placed.1 ∙ ap (λ (n : ℕ). c.args.image.ref_ptr.1 + n) (name-starts _ _ _ _ g c.in-Ok.ensures.placed ∙ ap name_start (sym p))) }

pub returns-in-Err : goal.returns-in-Err
returns-in-Err c =
    let p = header-none _ _ (sym c.in-Err.ensures.means) in
    record { bytes = ap name_of (sym p); placed = rw p (refl, omega arith) }
