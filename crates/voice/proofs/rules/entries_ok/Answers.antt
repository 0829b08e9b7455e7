-- `entries_ok` meets its contract.
use Rattle.std.proofs.Common.{◌≤◌, length, sym, ◌∙◌, arith, rules}
use lib.Ieee.{nan, le}
use Rattle.voice.specs.Voice.{entries_ok, pitch_ok, stretch_ok}
use Rattle.voice.proofs.Loops.{every-front, every-pair}
use Rattle.voice.proofs.rules.entries_ok.Goals as goal
use Rattle.voice.proofs.rules.entries_ok.Goals.{then-all_of, else-all_of}

pub returns-then-ascend : goal.returns-then-ascend
unfolding entries_ok
returns-then-ascend c =
    let n = c.args.n in
    let xs = c.short_list.result.now in
    let ys = c.short_list-2.result.now in
    let fits : n ≤ length xs = omega (arith, c.short_list.ensures.long) in
    let fits-2 : n ≤ length ys = omega (arith, c.short_list-2.ensures.long) in
    let pitches = c.all_of.ensures pitch_ok nan (λ i r l h. h) ∙ every-front nan xs n fits pitch_ok in
    let stretches = c.all_of-then-ascend.ensures stretch_ok nan (λ i r l h. h) ∙ every-front nan ys n fits-2 stretch_ok in
    elim c.if-all_of.branch [
      | then-all_of w ↦ let order = w.ascend.ensures le nan (λ i r l h. search rules) ∙ every-pair nan xs n fits le in
          rw (← c.short_list.ensures.list, ← c.short_list-2.ensures.list, sym pitches ∙ w.if-all_of.true, sym order ∙ sym w.value-is ∙ c.if-ascend.true) stretches
      | else-all_of w ↦ cc
    ]

pub returns-else-ascend : goal.returns-else-ascend
unfolding entries_ok
returns-else-ascend c =
    let n = c.args.n in
    let xs = c.short_list.result.now in
    let fits : n ≤ length xs = omega (arith, c.short_list.ensures.long) in
    let pitches = c.all_of.ensures pitch_ok nan (λ i r l h. h) ∙ every-front nan xs n fits pitch_ok in
    elim c.if-all_of.branch [
      | then-all_of w ↦ let order = w.ascend.ensures le nan (λ i r l h. search rules) ∙ every-pair nan xs n fits le in
          rw (← c.short_list.ensures.list, sym pitches ∙ w.if-all_of.true, sym order ∙ sym w.value-is ∙ c.if-ascend.false) c.if-ascend.false
      | else-all_of w ↦ rw (← c.short_list.ensures.list, sym pitches ∙ w.if-all_of.false) c.if-ascend.false
    ]
