-- The entries between which a frequency lies: one, or two neighbours with the share t between them.
use Rattle.std.specs.Prelude.{cond, ℕ, zero, suc, ◌+◌, ◌-◌, ◌*◌, List, get_or, Float}
use Rattle.std.specs.Float.{nan}
use Rattle.std.specs.Float.Ieee.{le}
use Rattle.float.specs.Lerp.{lerp}
use Rattle.float.specs.F32.{quotient}
use Rattle.player.specs.Share.{share_of}
use Rattle.player.specs.declared.pitch.bracket.Bracket.{Bracket}
use Rattle.player.specs.declared.pitch.bracket.Sides.{Sides}

-- how many of the first n pitches, up to the last that is not above f0: that entry's index plus 1, or 0
unfoldable pub not_above : List Float → Float → ℕ → ℕ
not_above pitches f0 zero = zero
not_above pitches f0 (suc n) = cond (le (get_or pitches n nan) f0) (suc n) (not_above pitches f0 n)

-- the last entry not above f0 and the one after it, with t
unfoldable pub neighbours : List Float → Float → ℕ → Bracket
neighbours pitches f0 zero = Bracket.One 0
neighbours pitches f0 (suc lo) = Bracket.Between lo (suc lo) (share_of (get_or pitches lo nan) f0 (get_or pitches (suc lo) nan))

-- among n entries: at or below the first pitch the first entry, else at or above the last pitch the last, else two neighbours
unfoldable pub bracket_of : List Float → ℕ → Float → Bracket
bracket_of pitches n f0 =
    cond (le f0 (get_or pitches 0 nan)) (Bracket.One 0)
    (cond (le (get_or pitches (n - 1) nan) f0) (Bracket.One (n - 1))
    (neighbours pitches f0 (not_above pitches f0 (n - 1))))

-- one entry stands on both sides with t = 0
abbrev pub sides_of : Bracket → Sides
sides_of (Bracket.One i) = record { lo = i; hi = i; t = quotient 0 1 }
sides_of (Bracket.Between lo hi t) = record { lo = lo; hi = hi; t = t }

-- a value between those of the two sides
abbrev pub value_between : List Float → Sides → Float
value_between l s = lerp (get_or l s.lo nan) (get_or l s.hi nan) s.t

-- the same where each entry has n values: of those at its place p
abbrev pub place_between : ℕ → List Float → Sides → ℕ → Float
place_between n l s p = lerp (get_or l (s.lo * n + p) nan) (get_or l (s.hi * n + p) nan) s.t
