use mathlib.Core.Path.{refl, sym, ap, ◌∙◌}
use mathlib.Core.List.{append-nil}
use native.Mathlib.Omega.{arith}
use Rattle.making.specs.inner.Live.{live_of, with_live}
use Rattle.making.specs.inner.Views.{entries_in}
use Rattle.making.specs.declared.live.Live.{Live}
use Rattle.making.specs.Making.{live_bands}
use Rattle.making.proofs.MakeLists.{live-push}
use Rattle.making.proofs.MakingLaws.{live-next, live-short}
use Rattle.making.proofs.entries.Entries.live_bands.Goals as goal
use Rattle.making.proofs.entries.Entries.live_bands.Goals.{then-is_live, else-is_live}

pub loop-b-init : goal.loop-b-init
unfolding live_bands
loop-b-init c = refl

pub push-requires : goal.push-requires
push-requires c =
    let l = live-short c.args.sounding.kind (entries_in c.args.self.now) c.loop-b.b in
    let e = ap (λ (x : Live). x.count) c.loop-b.invariant in
    omega (arith, c.requires.bands_in)

pub loop-b-preserved : goal.loop-b-preserved
loop-b-preserved c =
    let es = entries_in c.args.self.now in
    let l = live-short c.args.sounding.kind es c.loop-b.b in
    elim c.if-is_live.branch [
      | then-is_live w ↦
          w.live-is
          ∙ w.push.ensures
          ∙ ap (λ (x : Live). with_live x c.loop-b.b) c.loop-b.invariant
          ∙ live-push (live_bands c.args.sounding.kind es c.loop-b.b) c.loop-b.b (omega (arith, c.requires.bands_in))
          ∙ ap live_of (sym (rw (sym c.is_live.ensures ∙ w.if-is_live.true) at (live-next c.args.sounding.kind es c.loop-b.b)))
      | else-is_live w ↦
          w.live-is
          ∙ c.loop-b.invariant
          ∙ ap live_of (sym (rw (sym c.is_live.ensures ∙ w.if-is_live.false, append-nil) at (live-next c.args.sounding.kind es c.loop-b.b)))
    ]
