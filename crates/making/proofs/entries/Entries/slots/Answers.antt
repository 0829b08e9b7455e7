use mathlib.Core.Path.{refl, ap, ◌∙◌}
use Prim.Native.Nat.{◌*◌, ◌<◌, ◌≤◌}
use native.Mathlib.Omega.{arith}
use native.Mathlib.Nat.{mul-le-mul_left}
use lib.ListN.{length, replicate, length-replicate}
use lib.Ieee.{binary32, of_bits, round}
use Rattle.voice.specs.Lists.{up_to}
use Rattle.table.specs.Table.{PitchEntry}
use Rattle.making.specs.Making.{slot_coeff}
use Rattle.making.proofs.PlaceLaws.{place-again, place-full}
use Rattle.making.proofs.entries.Entries.slots.Goals as goal

pub loop-x-init : goal.loop-x-init
unfolding up_to
loop-x-init g c = refl

pub loop-x-preserved : goal.loop-x-preserved
loop-x-preserved g c =
    let w = g.R.Row.WIDTH in
    let e = c.args.self.now in
    let n = length e.views.now in
    let pos : 0 < 4 * w = omega (arith, g.met.R.Row.some) in
    let before : c.loop-x.x < 4 * w * n = rw c.WIDTH-width.ensures at c.loop-x-test.true in
    let all : 4 * w * n ≤ 4 * w * 16 = mul-le-mul_left (4 * w) e.few in
    let zeros = replicate g.row.N (of_bits binary32 0) in
    let long : c.loop-x.x < length zeros = rw length-replicate (omega (arith, c.requires)) in
    place-again g.R.Row.coeff w pos e.image.now e.views.now c.args.sounding.kind c.args.sounding.channels c.loop-x.x zeros c.loop-x.out _ long before
    (c.slot_at.ensures ∙ ap (λ (e : PitchEntry). slot_coeff g.R.Row.coeff w c.args.sounding.kind c.args.sounding.channels e c.loop-x.x) (rw c.WIDTH-width.ensures at c.entry.ensures))
    c.loop-x.invariant

pub returns : goal.returns
unfolding of_bits round
returns g c =
    let w = g.R.Row.WIDTH in
    let e = c.args.self.now in
    let n = length e.views.now in
    let pos : 0 < 4 * w = omega (arith, g.met.R.Row.some) in
    let past : 4 * w * n ≤ c.loop-x.x = rw c.WIDTH-width.ensures at c.loop-x-test.false in
    let within : c.loop-x.x ≤ 4 * w * n = rw c.WIDTH-width.ensures at c.loop-x.auto.x-end in
    let all : 4 * w * n ≤ 4 * w * 16 = mul-le-mul_left (4 * w) e.few in
    place-full g.R.Row.coeff w pos e.image.now e.views.now c.args.sounding.kind c.args.sounding.channels c.loop-x.x g.row.N c.loop-x.out (omega (arith, c.requires)) (omega arith) c.loop-x.invariant
