use mathlib.Core.Path.{sym, ◌∙◌}
use native.Mathlib.Omega.{arith}
use Rattle.std.proofs.lemmas.Result.{err_from_is_err_and}
use Rattle.table.proofs.WordLaws.{length-words}
use Rattle.table.proofs.EntryLaws.{no-numbers, no-rows-after, no-pairs-after, entry-then}
use Rattle.table.proofs.SizeLaws.{entry-end, view-is}
use Rattle.table.proofs.entry.entry_at.Goals as goal

pub returns-in_err-pitch : goal.returns-in_err-pitch
returns-in_err-pitch c =
    let p = err_from_is_err_and c.from_residual.result c.from_residual.ensures.1 in
    rw (p.1, p.2) (record { means = sym (no-numbers _ _ _ _ (sym c.in_err-pitch.ensures.means)); placed = tt })

pub returns-in_err-rows : goal.returns-in_err-rows
returns-in_err-rows c =
    let p = err_from_is_err_and c.from_residual-in_err-rows.result c.from_residual-in_err-rows.ensures.1 in
    let e₁ = sym c.in_ok-pitch.ensures.means in
    rw (p.1, p.2) (record { means = sym (no-rows-after _ _ _ _ _ e₁ _ (sym c.in_err-rows.ensures.means)); placed = tt })

pub returns-in_err-pairs : goal.returns-in_err-pairs
returns-in_err-pairs c =
    let p = err_from_is_err_and c.from_residual-in_err-pairs.result c.from_residual-in_err-pairs.ensures.1 in
    let e₁ = sym c.in_ok-pitch.ensures.means in
    let e₂ = sym c.in_ok-rows.ensures.means in
    rw (p.1, p.2) (record { means = sym (no-pairs-after _ _ _ _ _ e₁ _ _ e₂ _ (sym c.in_err-pairs.ensures.means)); placed = tt })

pub returns-then-not-is_well_formed : goal.returns-then-not-is_well_formed
returns-then-not-is_well_formed c =
    let e₁ = sym c.in_ok-pitch.ensures.means in
    let e₂ = sym c.in_ok-rows.ensures.means in
    let e₃ = sym c.in_ok-pairs.ensures.means in
    record { means = sym (entry-then _ _ _ _ _ e₁ _ _ e₂ _ _ e₃ _ _ (length-words _ _ _) (length-words _ _ _) _ (rw (c.from.ensures, c.from-2.ensures) at (sym c.is_well_formed.ensures) ∙ c.if-not-is_well_formed.true)); placed = tt }

pub returns : goal.returns
returns c =
    let at = c.args.c.at in
    let e₁ = sym c.in_ok-pitch.ensures.means in
    let e₂ = sym c.in_ok-rows.ensures.means in
    let e₃ = sym c.in_ok-pairs.ensures.means in
    let w₁ = c.in_ok-pitch.ensures.placed in
    let w₂ = c.in_ok-rows.ensures.placed in
    let w₃ = c.in_ok-pairs.ensures.placed in
    let o = entry-then _ _ at _ _ e₁ _ _ e₂ _ _ e₃ _ _ (length-words _ _ _) (length-words _ _ _) _ (rw (c.from.ensures, c.from-2.ensures) at (sym c.is_well_formed.ensures) ∙ c.if-not-is_well_formed.false) in
    record { means = sym o; placed = view-is _ at _ w₁.0 (omega arith) (omega arith) w₃.1 (entry-end _ _ at _ _ o) }
