-- Equality of floats goes both ways and on. Assumes nothing.
use Prim.Native.Nat.{ℕ, ◌*◌, ◌<◌}
use mathlib.Core.Path.{◌≡◌, refl, ap, sym, ◌∙◌}
use mathlib.Core.Logic.{◌⊎◌, inl, inr, ⊎_elim}
use mathlib.Core.Bool.{Bool, true, false, ◌&&◌, ◌||◌, beq}
use native.Mathlib.Omega.{arith}
use native.Mathlib.Nat.{mul_right_comm, eq_of_mul-eq-mul_right, zero-mul}
use lib.Dec.{eqb}
use lib.Ieee.Fits.{down_pos}
use lib.Ieee.{Float, nan, inf, fin, binary32, eq, of_bits, up, down, level}
use borrow.Author.Tests.{eqb-true, eq-eqb}
use Rattle.table.specs.Span.{float_eq}

no : false ≡ true → ⊥
no h = let z : ◌≡◌ {A = ℕ} 0 1 = cc in omega arith

beq-is : (s t : Bool) → beq s t ≡ true → s ≡ t
beq-is true true h = refl
beq-is true false h = absurd (no h)
beq-is false true h = absurd (no h)
beq-is false false h = refl

beq_same : (s : Bool) → beq s s ≡ true
beq_same true = refl
beq_same false = refl

and_is : (a b : Bool) → (a && b) ≡ true → (a ≡ true) × (b ≡ true)
and_is true b h = (refl, h)
and_is false b h = absurd (no h)

or_is : (a b : Bool) → (a || b) ≡ true → (a ≡ true) ⊎ (b ≡ true)
or_is true b h = inl refl
or_is false b h = inr h

or_right : (a : Bool) → (a || true) ≡ true
or_right true = refl
or_right false = refl

record Level (s : Bool) (a : ℕ) (t : Bool) (b : ℕ) : Type 0 where
  pub alike : a ≡ b
  pub sign : (s ≡ t) ⊎ (a ≡ 0)

level-is : (s : Bool) (a : ℕ) (t : Bool) (b : ℕ) → level s a t b ≡ true → Level s a t b
level-is s a t b h =
    let p = and_is (eqb a b) (beq s t || eqb a 0) h in
    record {
      alike = eqb-true a b p.0;
      sign = ⊎_elim (λ q. inl (beq-is s t q)) (λ q. inr (eqb-true a 0 q)) (or_is (beq s t) (eqb a 0) p.1);
    }

level-from : (s : Bool) (a : ℕ) (t : Bool) (b : ℕ) → Level s a t b → level s a t b ≡ true
level-from s a t b w = ⊎_elim
    (λ q. let z : beq s t ≡ true = ap (λ (x : Bool). beq x t) q ∙ beq_same t in rw (eq-eqb a b w.alike, z) refl)
    (λ q. rw (eq-eqb a b w.alike, eq-eqb a 0 q) (or_right (beq s t)))
    w.sign

none_of : (x d : ℕ) → 0 < d → x * d ≡ 0 → x ≡ 0
none_of x d h e = eq_of_mul-eq-mul_right d h x 0 (e ∙ sym (zero-mul d))

none-all : (x d : ℕ) → x ≡ 0 → x * d ≡ 0
none-all x d e = ap (λ (n : ℕ). n * d) e ∙ zero-mul d

-- numbers as fractions x / dx, y / dy, z / dz
module _ (s t r : Bool) (x y z dx dy dz : ℕ) (py : 0 < dy) (pz : 0 < dz) where
  level-trans : Level s (x * dy) t (y * dx) → Level t (y * dz) r (z * dy) → Level s (x * dz) r (z * dx)
  level-trans v w = record {
    alike =
        eq_of_mul-eq-mul_right dy py (x * dz) (z * dx)
        (mul_right_comm x dz dy
        ∙ ap (λ (n : ℕ). n * dz) v.alike
        ∙ mul_right_comm y dx dz
        ∙ ap (λ (n : ℕ). n * dx) w.alike
        ∙ mul_right_comm z dy dx);
    sign = ⊎_elim
        (λ p. ⊎_elim (λ q. inl (p ∙ q)) (λ q. inr (none-all x dz (none_of x dy py (v.alike ∙ none-all y dx (none_of y dz pz q))))) w.sign)
        (λ p. inr (none-all x dz (none_of x dy py p)))
        v.sign;
  }

level-sym : (s t : Bool) (a b : ℕ) → Level s a t b → Level t b s a
level-sym s t a b v = record { alike = sym v.alike; sign = ⊎_elim (λ p. inl (sym p)) (λ p. inr (sym v.alike ∙ p)) v.sign }

eq-sym : (x y : Float) → eq x y ≡ true → eq y x ≡ true
unfolding eq
eq-sym nan y h = absurd (no h)
eq-sym (inf s) nan h = absurd (no h)
eq-sym (inf s) (inf t) h = let e : s ≡ t = beq-is s t h in rw e (beq_same t)
eq-sym (inf s) (fin t n d) h = absurd (no h)
eq-sym (fin s m e) nan h = absurd (no h)
eq-sym (fin s m e) (inf t) h = absurd (no h)
eq-sym (fin s m e) (fin t n d) h = level-from t (n * up d * down e) s (m * up e * down d) (level-sym s t (m * up e * down d) (n * up d * down e) (level-is s (m * up e * down d) t (n * up d * down e) h))

eq_trans : (x y z : Float) → eq x y ≡ true → eq y z ≡ true → eq x z ≡ true
unfolding eq
eq_trans nan y z h g = absurd (no h)
eq_trans (inf s) nan z h g = absurd (no h)
eq_trans (inf s) (inf t) nan h g = absurd (no g)
eq_trans (inf s) (inf t) (inf r) h g = let e : s ≡ t = beq-is s t h in rw e g
eq_trans (inf s) (inf t) (fin r p f) h g = absurd (no g)
eq_trans (inf s) (fin t n d) z h g = absurd (no h)
eq_trans (fin s m e) nan z h g = absurd (no h)
eq_trans (fin s m e) (inf t) z h g = absurd (no h)
eq_trans (fin s m e) (fin t n d) nan h g = absurd (no g)
eq_trans (fin s m e) (fin t n d) (inf r) h g = absurd (no g)
eq_trans (fin s m e) (fin t n d) (fin r p f) h g =
    level-from s (m * up e * down f) r (p * up f * down e)
    (level-trans s t r (m * up e) (n * up d) (p * up f) (down e) (down d) (down f) (down_pos d) (down_pos f)
    (level-is s (m * up e * down d) t (n * up d * down e) h)
    (level-is t (n * up d * down f) r (p * up f * down d) g))

pub float-sym : (a b : ℕ) → float_eq a b ≡ true → float_eq b a ≡ true
unfolding float_eq
float-sym a b h = eq-sym (of_bits binary32 a) (of_bits binary32 b) h

pub float-trans : (a b c : ℕ) → float_eq a b ≡ true → float_eq b c ≡ true → float_eq a c ≡ true
unfolding float_eq
float-trans a b c h g = eq_trans (of_bits binary32 a) (of_bits binary32 b) (of_bits binary32 c) h g
