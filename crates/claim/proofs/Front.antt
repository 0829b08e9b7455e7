-- A list made longer, read below its own length: the bracket and what lies between the sides are the list's. Assumes nothing.
use mathlib.Core.Path.{◌≡◌, refl, ap, sym, ◌∙◌}
use mathlib.Core.List.{List, ◌++◌}
use Prim.Native.Nat.{ℕ, zero, suc, ◌-◌, ◌≤◌, ◌<◌}
use native.Mathlib.Omega.{arith}
use lib.ListN.{length, get_or-append}
use lib.Ieee.{Float, nan}
use Rattle.player.specs.Bracket.{not_above, neighbours, bracket_of, sides_of, value_between}
use Rattle.player.specs.inner.Ranges.{SidesIn}
use Rattle.player.specs.declared.pitch.bracket.Sides.{Sides}
use Rattle.claim.proofs.Neighbours.{not_above-in}
use Rattle.claim.proofs.Sides.{sides-in}

module _ (l r : List Float) (f0 : Float) where
  not_above-front : (n : ℕ) → n ≤ length l → not_above (l ++ r) f0 n ≡ not_above l f0 n
  unfolding not_above
  not_above-front zero h = refl
  not_above-front (suc n) h = rw (get_or-append l r nan n h, not_above-front n (omega arith))

  neighbours-front : (k : ℕ) → k < length l → neighbours (l ++ r) f0 k ≡ neighbours l f0 k
  unfolding neighbours
  neighbours-front zero h = refl
  neighbours-front (suc k) h = rw (get_or-append l r nan k (omega arith), get_or-append l r nan (suc k) h)

  bracket-front : 0 < length l → bracket_of (l ++ r) (length l) f0 ≡ bracket_of l (length l) f0
  unfolding bracket_of
  bracket-front h =
      let n = length l - 1 in
      rw (
        get_or-append l r nan 0 h,
        get_or-append l r nan n (omega arith),
        not_above-front n (omega arith),
        neighbours-front (not_above l f0 n) (omega (arith, not_above-in l f0 n)),
      )

between-front : (ss q : List Float) (s : Sides) → SidesIn (length ss) s → value_between (ss ++ q) s ≡ value_between ss s
between-front ss q s h = rw (get_or-append ss q nan s.lo h.low, get_or-append ss q nan s.hi h.high)

-- LAW: the stretch of n entries that stand at the front of longer lists
pub stretch-front : (ps r ss q : List Float) (n : ℕ) (f0 : Float) → length ps ≡ n → length ss ≡ n → 0 < n
    → value_between (ss ++ q) (sides_of (bracket_of (ps ++ r) n f0)) ≡ value_between ss (sides_of (bracket_of ps (length ps) f0))
stretch-front ps r ss q n f0 a b h =
    let e : bracket_of (ps ++ r) n f0 ≡ bracket_of ps (length ps) f0 = ap (λ k. bracket_of (ps ++ r) k f0) (sym a) ∙ bracket-front ps r f0 (rw a h) in
    ap (λ t. value_between (ss ++ q) (sides_of t)) e ∙ between-front ss q _ (rw (b, ← a) (sides-in ps f0 (length ps) (rw a h)))
