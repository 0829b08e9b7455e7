-- `bracket_at` meets its contract.
use Rattle.std.proofs.Common.{◌-◌, ◌+◌, ◌≤◌, get_or, length, arith}
use lib.Dec.{lit≤}
use lib.Ieee.{nan, round}
use Rattle.voice.specs.Voice.{pitch_ok}
use Rattle.player.specs.Bracket.{bracket_of}
use Rattle.voice.proofs.Loops.{every-at}
use Rattle.player.proofs.RangeLaws.{pitch-within}
use Rattle.player.proofs.BracketLaws.{none-found, below, found-le, next-above, found}
use Rattle.player.proofs.pitch.entries.Entries.bracket_at.Goals as goal

pub returns-then-f0-f0_hz : goal.returns-then-f0-f0_hz
unfolding bracket_of round
returns-then-f0-f0_hz c =
    record { value = rw c.if-f0-f0_hz.true; inside = (record { low = omega arith; high = omega arith }, record { plain-is = tt; upper = lit≤ tt }) }

pub returns-then-f0_hz-last : goal.returns-then-f0_hz-last
unfolding bracket_of round
returns-then-f0_hz-last c =
    record { value = rw (c.if-f0-f0_hz.false, c.if-f0_hz-last.true); inside = (record { low = omega arith; high = omega arith }, record { plain-is = tt; upper = lit≤ tt }) }

pub share-requires : goal.share-requires
share-requires c =
    let ps = c.args.self.now.f0_hz in
    let f = c.args.f0 in
    let last = c.args.self.now.count - 1 in
    let lo = c.in-Some.lo in
    let F = c.in-Some.ensures in
    let L : last ≤ length ps = omega arith in
    let b = below ps f last L lo F.0 F.1 F.2 in
    let pitched = every-at (λ i. pitch_ok (get_or ps i nan)) c.args.self.now.count in (
      pitch-within _ (pitched lo c.requires.0.pitches-ok (omega arith)),
      c.requires.1,
      pitch-within _ (pitched (lo + 1) c.requires.0.pitches-ok (omega arith)),
      found-le ps f last L lo F.0 F.1 F.2,
      next-above ps f last L lo F.0 F.1 F.2 c.if-f0_hz-last.false,
    )

pub returns-in-None : goal.returns-in-None
unfolding bracket_of round
returns-in-None c =
    record {
      value = rw (c.if-f0-f0_hz.false, c.if-f0_hz-last.false) (none-found c.args.self.now.f0_hz c.args.f0 (c.args.self.now.count - 1) (omega arith) c.in-None.ensures);
      inside = (record { low = omega arith; high = omega arith }, record { plain-is = tt; upper = lit≤ tt });
    }

pub returns-in-Some-clause-value : goal.returns-in-Some-clause-value
unfolding bracket_of
returns-in-Some-clause-value c =
    let F = c.in-Some.ensures in
    rw (c.if-f0-f0_hz.false, c.if-f0_hz-last.false, c.share.ensures.0) (found c.args.self.now.f0_hz c.args.f0 (c.args.self.now.count - 1) (omega arith) c.in-Some.lo F.0 F.1 F.2)
