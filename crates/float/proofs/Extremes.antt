-- The larger and the smaller of two floats: of finite ones, at least each and at most each. Assumes nothing.
use mathlib.Core.Path.{◌≡◌, refl, sym, ap, subst}
use Prim.Native.Nat.{◌*◌}
use mathlib.Core.Bool.{Bool, true, false, not, ◌&&◌, cond}
use lib.Dec.{T, eqb, eqb_refl}
use lib.Ieee.{Float, nan, inf, fin, up, down, lt, le, ne, is_nan}
use lib.Ieee.Bits.{is_true}
use lib.Ieee.Scale.{finite}
use Rattle.float.specs.Order.{maximum, minimum}
use Rattle.float.proofs.Finite.{by_cond}
use Rattle.float.proofs.Compare.{finite-not-lt, finite-le-self, lt-le}

-- only a NaN differs from itself
pub nan-test : (x : Float) → ne x x ≡ is_nan x
unfolding ne is_nan
nan-test nan = refl
nan-test (inf true) = refl
nan-test (inf false) = refl
nan-test (fin true m e) = ap (λ (b : Bool). not (b && true)) (is_true (eqb (m * up e * down e) (m * up e * down e)) (eqb_refl (m * up e * down e)))
nan-test (fin false m e) = ap (λ (b : Bool). not (b && true)) (is_true (eqb (m * up e * down e) (m * up e * down e)) (eqb_refl (m * up e * down e)))

-- ---- finite operands
finite-no-nan : (x : Float) → T (finite x) → is_nan x ≡ false
unfolding is_nan
finite-no-nan nan h = absurd h
finite-no-nan (inf s) h = absurd h
finite-no-nan (fin s m e) h = refl

-- the one test that is left
pub max-is : (a b : Float) → T (finite a) → maximum a b ≡ cond (lt a b) b a
max-is a b h = ap (λ (n : Bool). cond n b (cond (lt a b) b a)) (finite-no-nan a h)

pub min-is : (a b : Float) → T (finite a) → minimum a b ≡ cond (lt b a) b a
min-is a b h = ap (λ (n : Bool). cond n b (cond (lt b a) b a)) (finite-no-nan a h)

-- LAW: the maximum of two finite floats, of either sign, is at least each, and the minimum at most each
pub max-over-left : (a b : Float) → T (finite a) → T (le a (maximum a b))
max-over-left a b h =
    subst (λ (z : Float). T (le a z)) (sym (max-is a b h))
    (by_cond (λ (z : Float). T (le a z)) (lt a b) b a (λ (e : lt a b ≡ true). lt-le a b (subst T (sym e) tt)) (λ (e : lt a b ≡ false). finite-le-self a h))

pub max-over-right : (a b : Float) → T (finite a) → T (finite b) → T (le b (maximum a b))
max-over-right a b h k =
    subst (λ (z : Float). T (le b z)) (sym (max-is a b h))
    (by_cond (λ (z : Float). T (le b z)) (lt a b) b a (λ (e : lt a b ≡ true). finite-le-self b k) (λ (e : lt a b ≡ false). finite-not-lt a b h k e))

pub min-under-left : (a b : Float) → T (finite a) → T (le (minimum a b) a)
min-under-left a b h =
    subst (λ (z : Float). T (le z a)) (sym (min-is a b h))
    (by_cond (λ (z : Float). T (le z a)) (lt b a) b a (λ (e : lt b a ≡ true). lt-le b a (subst T (sym e) tt)) (λ (e : lt b a ≡ false). finite-le-self a h))

pub min-under-right : (a b : Float) → T (finite a) → T (finite b) → T (le (minimum a b) b)
min-under-right a b h k =
    subst (λ (z : Float). T (le z b)) (sym (min-is a b h))
    (by_cond (λ (z : Float). T (le z b)) (lt b a) b a (λ (e : lt b a ≡ true). finite-le-self b k) (λ (e : lt b a ≡ false). finite-not-lt b a k h e))
