use Prim.Native.Nat.{max}
use mathlib.Core.Path.{◌≡◌, sym, ap, ◌∙◌}
use Rattle.wire.proofs.Many.{stand-no, stand-end}
use Rattle.table.specs.Image.{entry}
use Rattle.table.specs.Answer.{entry_parsed}
use Rattle.table.specs.Desk.{bands_of}
use Rattle.table.specs.View.{entry_at}
use Rattle.table.proofs.DeskLaws.{bands-go, bands-none}
use Rattle.table.proofs.desk.bands_among.Goals as goal

pub returns-in_default : goal.returns-in_default
returns-in_default c =
    sym (bands-none c.args.kind _ _ (stand-no entry _ _ _ _ _ c.loop-i-test.true (sym c.entry_at.ensures.means ∙ ap (entry_parsed _) c.in_default.is))) ∙ c.loop-i.invariant

pub loop-i-preserved : goal.loop-i-preserved
loop-i-preserved c =
    let s = c.args.s.now in
    let best : c.max-best.result ≡ max c.loop-i.best (bands_of c.args.kind (entry_at s c.in-Ok.v)) = c.max-best.ensures ∙ ap (max c.loop-i.best) (c.bands_of.ensures s) in
    rw best (sym (bands-go _ _ _ _ _ _ _ _ c.loop-i-test.true (sym c.in-Ok.ensures.means)) ∙ c.loop-i.invariant)

pub returns : goal.returns
returns c =
    sym (bands-none c.args.kind _ _ (stand-end entry _ _ _ _ c.loop-i-test.false)) ∙ c.loop-i.invariant
