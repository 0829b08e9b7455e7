-- Laws of arrays that are filled from the front: padded lists. Assumes nothing.
use Prim.Native.Nat.{ℕ, suc, ◌+◌, ◌-◌, ◌≤◌, ◌<◌}
use mathlib.Core.Path.{◌≡◌, refl, ap, ◌∙◌}
use mathlib.Core.List.{List, [], ◌∷◌, ◌++◌, map, append_assoc}
use native.Mathlib.Omega.{arith}
use native.Mathlib.Numerals.{add-one}
use lib.ListN.{length, take, get_or, set, replicate, length-append, length-map}
use lib.Seq.{set_at, take-suc, length-take-le}
use Rattle.voice.specs.Lists.{padded}

-- the element after those that are set
pub pad-snoc : {A : Type 0} (z a : A) (n i : ℕ) (l : List A) → length l ≡ i → i < n → set (padded n z l) i a ≡ padded n z (l ++ (a ∷ []))
pad-snoc z a n i l e h =
    let q : n - length l ≡ suc (n - (length l + 1)) = omega arith in
    let r : n - length (l ++ (a ∷ [])) ≡ n - (length l + 1) = ap (λ (k : ℕ). n - k) (length-append l (a ∷ [])) in
    rw (r, q, set_at l z (replicate (n - (length l + 1)) z) a i e, append_assoc) refl

map_snoc : {A B : Type 0} (g : A → B) (l : List A) (a : A) → map g (l ++ (a ∷ [])) ≡ map g l ++ (g a ∷ [])
map_snoc g [] a = refl
map_snoc g (x ∷ l) a = ap (λ t. g x ∷ t) (map_snoc g l a)

pub map_next : {A B : Type 0} (g : A → B) (l : List A) (i : ℕ) (d : A) → i < length l → map g (take (i + 1) l) ≡ map g (take i l) ++ (g (get_or l i d) ∷ [])
map_next g l i d h = rw (add-one i, take-suc l i d h) (map_snoc g (take i l) (get_or l i d))

map-length : {A B : Type 0} (g : A → B) (l : List A) (i : ℕ) → i ≤ length l → length (map g (take i l)) ≡ i
map-length g l i h = length-map (take i l) g ∙ length-take-le i l h

-- a turn of a loop that fills an array from a list
pub pad-again : {A B : Type 0} (g : A → B) (z : B) (d : A) (n i : ℕ) (l : List A) (ls : List B) → i < length l → i < n
    → ls ≡ padded n z (map g (take i l)) → set ls i (g (get_or l i d)) ≡ padded n z (map g (take (i + 1) l))
pad-again g z d n i l ls h k e = rw (e, pad-snoc z (g (get_or l i d)) n i (map g (take i l)) (map-length g l i (omega arith)) k, map_next g l i d h) refl

-- and from the entries of views: the list is mapped twice
pub pad-again-2 : {A B C : Type 0} (f : A → B) (g : B → C) (z : C) (d : A) (n i : ℕ) (l : List A) (ls : List C) → i < length l → i < n
    → ls ≡ padded n z (map g (map f (take i l))) → set ls i (g (f (get_or l i d))) ≡ padded n z (map g (map f (take (i + 1) l)))
pad-again-2 f g z d n i l ls h k e =
    let m : length (map g (map f (take i l))) ≡ i = length-map (map f (take i l)) g ∙ map-length f l i (omega arith) in
    rw (e, pad-snoc z (g (f (get_or l i d))) n i (map g (map f (take i l))) m k, map_next f l i d h, map_snoc g (map f (take i l)) (f (get_or l i d))) refl
