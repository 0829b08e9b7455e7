-- Pieces that are taken in turn by `try_fold` or by a `for`, where the first that is wrong stays. Assumes nothing.
use Rattle.std.proofs.Common.{◌≡◌, ℕ, suc, ◌+◌, List, [], ◌∷◌, Option, Some, None, Result, Ok, Err, sym, refl, ap, subst, ◌∙◌, arith}
use Rattle.std.specs.List.{fold, FoldsTo, enumerate_from}
use Rattle.std.specs.Fn.{Mut, Called}
use Rattle.std.specs.Option.{MatchOption}
use Rattle.std.specs.Result.{IsErr, IsErrAnd, result_from_control_flow}
use Rattle.std.specs.Iterator.{AlwaysYields, Yields, TryFoldsItems}
use Rattle.std.proofs.lemmas.Iterator.{YieldsList}
use Rattle.std.proofs.lemmas.Result.{err_from_is_err_and}
use Rattle.console.specs.Pieces.{after_lines}

wrong_stays : {B C E : Type 0} (after : Result B E → C → Result B E) → ((e : E) (y : C) → after (Err e) y ≡ Err e) →
    (e : E) (ys : List C) → fold after (Err e) ys ≡ Err e
wrong_stays after stays e [] = refl
wrong_stays after stays e (y ∷ ys) = rw (stays e y) (wrong_stays after stays e ys)

-- `after` is what a piece makes of what those before it came to. A turn R goes on from p, which is f and what has been come to; q is where
-- the turns ended, and there all pieces are taken, W, or x is wrong, L x.
module _ {S A B C E F : Type 0} (steps : S → Option A → S → Type 0) (v : A → C) (after : Result B E → C → Result B E)
    (stays : (e : E) (y : C) → after (Err e) y ≡ Err e) (f : F) (R : F × B → A → F × B → Type 0)
    (goes : (p q : F × B) (x : A) → p.0 ≡ f → R p x q → (q.0 ≡ f) × (Ok q.1 ≡ after (Ok p.1) (v x)))
    (r : Result B E) (q : F × B) (W : Type 0) (L : A → Type 0) (whole : W → r ≡ Ok q.1)
    (wrong : (x : A) → q.0 ≡ f → L x → (e : E) × (r ≡ Err e) × (Err e ≡ after (Ok q.1) (v x))) (u : S) where
  at_end : (o : Option A) (ys : List C) (t : S) → q.0 ≡ f → AlwaysYields steps v t ys → steps t o u → MatchOption o W L →
      r ≡ fold after (Ok q.1) ys
  at_end None [] t k a s d = whole d
  at_end None (y ∷ ys) t k a s d = absurd (a.0 u s)
  at_end (Some x) [] t k a s d = absurd (a x u s)
  at_end (Some x) (y ∷ ys) t k a s d =
      let w = wrong x k d in
      let e : after (Ok q.1) y ≡ Err w.0 = ap (after (Ok q.1)) (sym (a.1 x u s).0) ∙ sym w.2 in
      rw e (w.1 ∙ sym (wrong_stays after stays w.0 ys))

  pub turns : (xs : List A) (ys : List C) (o : Option A) (s t : S) (p : F × B) → p.0 ≡ f → AlwaysYields steps v s ys → Yields steps s xs t →
      FoldsTo R p xs q → steps t o u → MatchOption o W L → r ≡ fold after (Ok p.1) ys
  turns [] ys o s t p k a y c l d = rw c (at_end o ys t (rw (← c) k) (rw (← y) a) l d)
  turns (x ∷ xs) [] o s t p k a y c l d = absurd (a x y.0 y.1)
  turns (x ∷ xs) (z ∷ ys) o s t p k a y c l d =
      let n = a.1 x y.0 y.1 in
      let m = goes p c.0 x k c.1 in
      let e : after (Ok p.1) z ≡ Ok c.0.1 = ap (after (Ok p.1)) (sym n.0) ∙ sym m.1 in
      rw e (turns xs ys o y.0 t c.0 m.0 n.1 y.2 c.2 l d)

-- what `try_fold` gives where each call of f gives what `after` makes of it
pub pieces_folded : {S A B C E F : Type 0} {steps : S → Option A → S → Type 0} {v : A → C}
    {s : S} {ys : List C} {f : F} {init : B} {r : Result B E} (u : S)
    (g : Mut F (B × (A × Unit {0})) (Result B E)) (after : Result B E → C → Result B E) → ((e : E) (y : C) → after (Err e) y ≡ Err e) →
    ((b : B) (x : A) (w : Result B E) (h : F) → Called g f (b, (x, tt)) w h → (h ≡ f) × (w ≡ after (Ok b) (v x))) →
    TryFoldsItems steps g (λ w c. w ≡ result_from_control_flow c) (λ e w. IsErr w × IsErrAnd w (λ y. y ≡ e.0)) s f init r u →
    YieldsList steps v s ys → r ≡ fold after (Ok init) ys
pieces_folded {steps = steps} {v} {s} {ys} {f} {init} {r} u g after stays gives d e =
    turns steps v after stays f _
    (λ p q x k t. let m = gives p.1 x t.0 q.0 (subst (λ i. Called g i (p.1, (x, tt)) t.0 q.0) k t.1) in (m.0, sym t.2 ∙ m.1))
    r (d.2, d.3) _ _ (λ w. w)
    (λ x k t.
    let m = gives d.3 x t.0 t.1 (subst (λ i. Called g i (d.3, (x, tt)) t.0 t.1) k t.3) in
    let w = err_from_is_err_and r t.5.1 in
    (t.2.0, w.1 ∙ ap Err w.2, sym t.4 ∙ m.1))
    u d.0 ys d.1 s d.4.0 (f, init) refl e.runs d.4.1 d.5 d.4.2 d.6

-- A `for` that has taken xs, of which `after` says what each makes of those before it.
module _ {S A B C E : Type 0} (steps : S → Option A → S → Type 0) (v : A → C) (after : Result B E → C → Result B E) where
  abbrev so_far : Result B E → List A → Result B E
  so_far a xs = fold (λ r x. after r (v x)) a xs

  ended : (u : S) (xs : List A) (ys : List C) (s t : S) (a : Result B E) → AlwaysYields steps v s ys → Yields steps s xs t →
      steps t None u → so_far a xs ≡ fold after a ys
  ended u [] [] s t a g y p = refl
  ended u [] (z ∷ ys) s t a g y p = absurd (g.0 u (subst (λ k. steps k None u) (sym y) p))
  ended u (x ∷ xs) [] s t a g y p = absurd (g x y.0 y.1)
  ended u (x ∷ xs) (z ∷ ys) s t a g y p =
      let n = g.1 x y.0 y.1 in
      ap (λ c. so_far (after a c) xs) n.0 ∙ ended u xs ys y.0 t (after a z) n.1 y.2 p

  module _ (stays : (e : E) (y : C) → after (Err e) y ≡ Err e) (x : A) (e : E) (u : S) where
    halted : (ys : List C) (t : S) (a : Result B E) → AlwaysYields steps v t ys → steps t (Some x) u → after a (v x) ≡ Err e →
        fold after a ys ≡ Err e
    halted [] t a g p k = absurd (g x u p)
    halted (y ∷ ys) t a g p k =
        let w : after a y ≡ Err e = ap (after a) (sym (g.1 x u p).0) ∙ k in
        ap (λ r. fold after r ys) w ∙ wrong_stays after stays e ys

    stopped : (xs : List A) (ys : List C) (s t : S) (a : Result B E) → AlwaysYields steps v s ys → Yields steps s xs t →
        steps t (Some x) u → after (so_far a xs) (v x) ≡ Err e → fold after a ys ≡ Err e
    stopped [] ys s t a g y p k = halted ys t a (subst (λ i. AlwaysYields steps v i ys) y g) p k
    stopped (w ∷ xs) [] s t a g y p k = absurd (g w y.0 y.1)
    stopped (w ∷ xs) (z ∷ ys) s t a g y p k =
        let n = g.1 w y.0 y.1 in
        stopped xs ys y.0 t (after a z) n.1 y.2 p (subst (λ c. after (so_far (after a c) xs) (v x) ≡ Err e) n.0 k)

-- where all pieces are taken, and where x is wrong, they come to what `fold` says
pub all_taken : {S A B C E : Type 0} {steps : S → Option A → S → Type 0} {v : A → C} {s : S} {ys : List C}
    (after : Result B E → C → Result B E) (a : Result B E) (xs : List A) (t : S) (r : Option A) (u : S) →
    YieldsList steps v s ys → Yields steps s xs t → r ≡ None → steps t r u → fold (λ q x. after q (v x)) a xs ≡ fold after a ys
all_taken {steps = steps} {v} {s} {ys} after a xs t r u e y is p =
    ended steps v after u xs ys s t a e.runs y (subst (λ o. steps t o u) is p)

pub wrong_taken : {S A B C E : Type 0} {steps : S → Option A → S → Type 0} {v : A → C} {s : S} {ys : List C}
    (after : Result B E → C → Result B E) → ((e : E) (y : C) → after (Err e) y ≡ Err e) →
    (a : Result B E) (xs : List A) (t : S) (r : Option A) (u : S) (x : A) (e : E) →
    YieldsList steps v s ys → Yields steps s xs t → r ≡ Some x → steps t r u → after (fold (λ q x. after q (v x)) a xs) (v x) ≡ Err e →
    fold after a ys ≡ Err e
wrong_taken {steps = steps} {v} {s} {ys} after stays a xs t r u x e l y is p k =
    stopped steps v after stays x e u xs ys s t a l.runs y (subst (λ o. steps t o u) is p) k

-- what numbered lines come to in turn
pub lines_folded : {X : Type 0} (after : X → ℕ → List ℕ → X) (a : X) (n : ℕ) (ls : List (List ℕ)) →
    fold (λ b (p : ℕ × List ℕ). after b p.0 p.1) a (enumerate_from n ls) ≡ after_lines after a n ls
unfolding after_lines
lines_folded after a n [] = refl
lines_folded after a n (l ∷ ls) = let e : n + 1 ≡ suc n = omega arith in rw e (lines_folded after (after a n l) (suc n) ls)
