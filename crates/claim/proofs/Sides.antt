-- The two sides of a frequency: both are entries, the share is from 0 to 1, and the stretch between them is from 0 to 8. Assumes nothing.
use mathlib.Core.Path.{◌≡◌, refl, sym}
use mathlib.Core.List.{List}
use mathlib.Core.Bool.{Bool, true, false, cond}
use Prim.Native.Nat.{ℕ, zero, suc, ◌-◌, ◌≤◌, ◌<◌}
use native.Mathlib.Omega.{arith}
use lib.ListN.{get_or}
use lib.Dec.{T, lit≤}
use lib.Ieee.{Float, nan, binary32, round, le, fits}
use Rattle.float.specs.inner.Range.{plain, Within}
use Rattle.float.proofs.Finite.{shown}
use Rattle.float.specs.F32.{quotient}
use Rattle.player.specs.Share.{share_of}
use Rattle.player.specs.declared.pitch.bracket.Bracket.TheVariants.{One}
use Rattle.voice.specs.Voice.{pitch_ok, stretch_ok}
use Rattle.player.specs.Bracket.{not_above, neighbours, bracket_of, sides_of, value_between}
use Rattle.player.specs.inner.Ranges.{SidesIn}
use Rattle.claim.proofs.Neighbours.{not_above-in, not_above-le, above-it}
use Rattle.player.proofs.PhaseLaws.{share-within}
use Rattle.player.proofs.RangeLaws.{pitch-within, not-le, stretch-ok-within}

module _ (l : List Float) (f0 : Float) where
  neighbours-in : (n k : ℕ) → 0 < n → k ≤ n - 1 → SidesIn n (sides_of (neighbours l f0 k))
  unfolding neighbours
  neighbours-in n zero h g = record { low = h; high = h }
  neighbours-in n (suc k) h g = record { low = omega arith; high = omega arith }

  -- LAW: with an entry there, both sides are entries
  pub sides-in : (n : ℕ) → 0 < n → SidesIn n (sides_of (bracket_of l n f0))
  unfolding bracket_of
  sides-in n h = go (le f0 (get_or l 0 nan)) (le (get_or l (n - 1) nan) f0)
    where
      go : (a b : Bool) → SidesIn n (sides_of (cond a (One 0) (cond b (One (n - 1)) (neighbours l f0 (not_above l f0 (n - 1))))))
      go true b = record { low = h; high = h }
      go false true = record { low = omega arith; high = omega arith }
      go false false = neighbours-in n _ h (not_above-in l f0 (n - 1))

  module _ (n : ℕ) (pos : 0 < n) (pitches : (i : ℕ) → i < n → pitch_ok (get_or l i nan) ≡ true) (pitches32 : (i : ℕ) → i < n → T (fits binary32 (get_or l i nan)))
      (P : T (plain f0)) (F : T (fits binary32 f0)) where
    zero-share : Within 1 1 (quotient 0 1)
    unfolding round
    zero-share = record { plain-is = tt; upper = lit≤ tt }

    share-between : (k : ℕ) → suc k < n → le (get_or l k nan) f0 ≡ true → le (get_or l (suc k) nan) f0 ≡ false → Within 1 1 (share_of (get_or l k nan) f0 (get_or l (suc k) nan))
    share-between k h a b =
        let p = (pitch-within _ (pitches k (omega arith))).plain-is in
        let q = (pitch-within _ (pitches (suc k) h)).plain-is in
        share-within (get_or l k nan) f0 (get_or l (suc k) nan) (pitches32 k (omega arith)) F (pitches32 (suc k) h) p P q (shown _ a) (not-le _ f0 q P b)

    neighbours-share : (k : ℕ) → not_above l f0 (n - 1) ≡ k → le (get_or l (n - 1) nan) f0 ≡ false → Within 1 1 (sides_of (neighbours l f0 k)).t
    unfolding neighbours
    neighbours-share zero e h = zero-share
    neighbours-share (suc k) e h =
        share-between k (omega (arith, not_above-in l f0 (n - 1))) (not_above-le l f0 (n - 1) k e) (above-it l f0 (n - 1) (suc k) (sym e) h)

    -- LAW: the share is from 0 to 1
    pub sides-share : Within 1 1 (sides_of (bracket_of l n f0)).t
    unfolding bracket_of
    sides-share = go (le f0 (get_or l 0 nan)) (le (get_or l (n - 1) nan) f0) refl
      where
        go : (a b : Bool) → le (get_or l (n - 1) nan) f0 ≡ b → Within 1 1 (sides_of (cond a (One 0) (cond b (One (n - 1)) (neighbours l f0 (not_above l f0 (n - 1)))))).t
        go true b e = zero-share
        go false true e = zero-share
        go false false e = neighbours-share (not_above l f0 (n - 1)) refl e

    -- LAW: the stretch is from 0 to 8
    pub between-stretch : (ss : List Float) → ((i : ℕ) → i < n → stretch_ok (get_or ss i nan) ≡ true) → ((i : ℕ) → i < n → T (fits binary32 (get_or ss i nan)))
        → Within 8 1 (value_between ss (sides_of (bracket_of l n f0)))
    between-stretch ss ok ok32 =
        let s = sides_of (bracket_of l n f0) in
        let i = sides-in n pos in
        stretch-ok-within _ _ _ (ok32 s.lo i.low) (ok s.lo i.low) (ok s.hi i.high) sides-share
