-- The laws of the lists that a counting loop builds, one turn at a time.
use mathlib.Core.Path.{◌≡◌, refl, sym, ap, ◌∙◌}
use mathlib.Core.Logic.{⊎_elim}
use mathlib.Core.List.{List, [], ◌∷◌, ◌++◌, append_assoc, append-nil}
use mathlib.Core.Bool.{Bool, true, false, ◌&&◌}
use Prim.Native.Nat.{ℕ, zero, suc, ◌+◌, ◌-◌, ◌*◌, ◌%◌, ◌≤◌, ◌<◌}
use native.Mathlib.Numerals.{add-one}
use native.Mathlib.Nat.{add-zero, add-suc, suc-add, zero-add, suc-mul, one-mul, mul-le-mul_right, mod-lt, eq-or-lt_of_le}
use native.Mathlib.Omega.{arith}
use lib.ListN.{length, take, drop, get_or, set, length-append, drop_of_length-le, get_or-append, take-append-drop, replicate}
use lib.Seq.{split_at, length-take-le, drop-cons, set_at, take_at, drop_at, drop-drop, get_or_at, ext_get_or, drop-append-le}
use Rattle.std.proofs.lemmas.List.{get_or-take}
use Rattle.voice.specs.Lists.{map_to, up_to, steps, join_to, every, padded}
use Rattle.voice.specs.Input.{input_ok}
use borrow.Author.Tests.{eqb-true}
use lib.Dec.{leb, eqb}

module _ {A : Type 0} (f : ℕ → A → A) (d : A) where
  pub get_or-map_to : (k n : ℕ) (l : List A) → get_or (map_to f k n l) n d ≡ get_or l n d
  unfolding map_to
  get_or-map_to k zero l = refl
  get_or-map_to k (suc n) [] = refl
  get_or-map_to k (suc n) (x ∷ l) = get_or-map_to (suc k) n l

  pub map_to-suc : (k n : ℕ) (l : List A) → set (map_to f k n l) n (f (k + n) (get_or l n d)) ≡ map_to f k (suc n) l
  unfolding map_to
  map_to-suc k zero [] = refl
  map_to-suc k (suc n) [] = refl
  map_to-suc k zero (x ∷ l) = rw add-zero
  map_to-suc k (suc n) (x ∷ l) = rw (add-suc k n, ← suc-add k n) (ap (λ t. f k x ∷ t) (map_to-suc (suc k) n l))

  -- what a turn of a loop stores: `ls` is the list with n elements done, and element n is mapped
  pub map_to-again : (n : ℕ) (l ls : List A) → ls ≡ map_to f 0 n l → set ls n (f n (get_or ls n d)) ≡ map_to f 0 (n + 1) l
  map_to-again n l ls e = rw (e, get_or-map_to 0 n l, add-one n, ← map_to-suc 0 n l, zero-add n)

  -- what the turn reads: element n is still as it was
  pub map_to-read : (n : ℕ) (l ls : List A) → ls ≡ map_to f 0 n l → get_or ls n d ≡ get_or l n d
  map_to-read n l ls e = rw e (get_or-map_to 0 n l)

  pub map_to-full : (i n : ℕ) (l ls : List A) → i ≡ n → ls ≡ map_to f 0 i l → ls ≡ map_to f 0 n l
  map_to-full i n l ls q e = rw (e, q)

  -- an element that is mapped
  mapped_at : (k n i : ℕ) (l : List A) → i < n → i < length l → get_or (map_to f k n l) i d ≡ f (k + i) (get_or l i d)
  unfolding map_to
  mapped_at k zero i l h g = absurd (omega arith)
  mapped_at k (suc n) i [] h g = absurd (omega arith)
  mapped_at k (suc n) zero (x ∷ l) h g = rw add-zero
  mapped_at k (suc n) (suc i) (x ∷ l) h g = rw (add-suc k i, ← suc-add k i) (mapped_at (suc k) n i l (omega arith) (omega arith))

  pub map_to-at : (n i : ℕ) (l : List A) → i < n → i < length l → get_or (map_to f 0 n l) i d ≡ f i (get_or l i d)
  map_to-at n i l h g = rw (mapped_at 0 n i l h g, zero-add i)

pub steps-again : {A : Type 0} (f : ℕ → A → A) (s y : A) (n : ℕ) → y ≡ steps f s n → f n y ≡ steps f s (n + 1)
unfolding steps
steps-again f s y n e = rw (e, add-one n)

pub steps-full : {A : Type 0} (f : ℕ → A → A) (s y : A) (i n : ℕ) → i ≡ n → y ≡ steps f s i → y ≡ steps f s n
steps-full f s y i n q e = rw (e, q)

-- nothing happens at any step
pub steps-same : {A : Type 0} (s : A) (n : ℕ) → steps (λ t x. x) s n ≡ s
unfolding steps
steps-same s zero = refl
steps-same s (suc n) = steps-same s n

-- ---- tests of every index
pub both_true : (a b : Bool) → a && b ≡ true → (a ≡ true) × (b ≡ true)
both_true true b h = (refl, h)
both_true false b h = let z : ◌≡◌ {A = ℕ} 0 1 = cc in absurd (omega arith)

pub every-at : (test : ℕ → Bool) (n i : ℕ) → every test n ≡ true → i < n → test i ≡ true
unfolding steps
every-at test zero i h l = absurd (omega arith)
every-at test (suc n) i h l =
    let p = both_true _ _ h in
    ⊎_elim (λ (q : i ≡ n). rw q p.1) (λ (q : i < n). every-at test n i p.0 q) (eq-or-lt_of_le (omega arith))

pub at_every : (test : ℕ → Bool) (n : ℕ) → ((i : ℕ) → i < n → test i ≡ true) → every test n ≡ true
unfolding steps
at_every test zero h = refl
at_every test (suc n) h = rw (at_every test n (λ i l. h i (omega arith)), h n (omega arith))

-- a loop that tests every index: before its first turn, after one more, and after the last
module _ (test : ℕ → Bool) where
  pub every_first : true ≡ every test 0
  unfolding steps
  every_first = refl

  pub every-again : (ok here r : Bool) (i : ℕ) → ok ≡ every test i → here ≡ test i → r ≡ ok && here → r ≡ every test (i + 1)
  unfolding steps
  every-again ok here r i e h q = rw (q, e, h, add-one i)

  pub every-last : (ok : Bool) (i n : ℕ) → i ≡ n → ok ≡ every test i → ok ≡ every test n
  every-last ok i n q e = rw (e, q)

-- tests that answer alike
every-same : (t u : ℕ → Bool) (n : ℕ) → ((i : ℕ) → i < n → t i ≡ u i) → every t n ≡ every u n
unfolding steps
every-same t u zero h = refl
every-same t u (suc n) h = rw (every-same t u n (λ i l. h i (omega arith)), h n (omega arith))

-- of the first n items of a list: each, and each with the next
module _ {A : Type 0} (d : A) (xs : List A) (n : ℕ) (l : n ≤ length xs) where
  pub every-front : (p : A → Bool) → every (λ i. p (get_or (take n xs) i d)) (length (take n xs)) ≡ every (λ i. p (get_or xs i d)) n
  every-front p = rw (length-take-le n xs l) (every-same _ _ n (λ i h. ap p (get_or-take n xs i d h)))

  pub every-pair : (p : A → A → Bool) → every (λ i. p (get_or (take n xs) i d) (get_or (take n xs) (i + 1) d)) (length (take n xs) - 1) ≡ every (λ i. p (get_or xs i d) (get_or xs (i + 1) d)) (n - 1)
  every-pair p =
      rw (length-take-le n xs l)
      (every-same _ _ (n - 1) (λ i h. rw (get_or-take n xs i d (omega arith), get_or-take n xs (i + 1) d (omega arith))))

-- ---- rows
-- row a of k rows of n, element i
pub row_below : (a k n i : ℕ) → a < k → i < n → a * n + i < k * n
row_below a k n i h l =
    let s = suc-mul a n in
    let m : suc a * n ≤ k * n = mul-le-mul_right n h in
    omega arith

pub row-end : (c k n : ℕ) → c < k → c * n + n ≤ k * n
row-end c k n h =
    let s = suc-mul c n in
    let m : suc c * n ≤ k * n = mul-le-mul_right n h in
    omega arith

-- the part of channel ch of a connected input of k channels ends inside its slice
pub input-end : (k n len ch : ℕ) → input_ok k n len ≡ true → (eqb k 0 ≡ false) → (0 < k) × ((ch % k) * n + n ≤ len)
input-end k n len ch h z =
    let g : leb k 8 && eqb (k * n) len ≡ true = rw z at h in
    let e : k * n ≡ len = eqb-true _ _ (both_true (leb k 8) (eqb (k * n) len) g).1 in
    let p : 0 < k = nonzero k z in
    (p, rw (← e) (row-end (ch % k) k n (mod-lt ch p)))
  where
    nonzero : (k : ℕ) → eqb k 0 ≡ false → 0 < k
    nonzero zero h = let q : ◌≡◌ {A = ℕ} 0 1 = cc in absurd (omega arith)
    nonzero (suc k) h = omega arith

-- what stands in a list does not ask what would stand past its end
pub read-any : {A : Type 0} (l : List A) (i : ℕ) (d e : A) → i < length l → get_or l i d ≡ get_or l i e
read-any {A = A} l i d e h = sym (ap (λ (z : List A). get_or z i e) (split_at l i d h) ∙ get_or_at (take i l) (get_or l i d) _ e i (length-take-le i l (omega arith)))

pub small_product : (k n : ℕ) → k ≤ 8 → n ≤ 128 → k * n ≤ 1024
small_product k n h l =
    let a : k * n ≤ 8 * n = mul-le-mul_right n h in
    omega arith

-- ---- lists that are filled
module _ {A : Type 0} (f : ℕ → A) where
  pub length-up_to : (n : ℕ) → length (up_to f n) ≡ n
  unfolding up_to
  length-up_to zero = refl
  length-up_to (suc n) = rw (length-append, length-up_to n) (add-one n)

  -- what a turn of a loop that fills a list stores: the first n are done, and element n is written
  pub up_to-again : (n : ℕ) (l ls : List A) → n < length l → ls ≡ up_to f n ++ drop n l → set ls n (f n) ≡ up_to f (n + 1) ++ drop (n + 1) l
  unfolding up_to
  up_to-again n l ls h e = rw (e, add-one n, drop-cons l n (f n) h, set_at (up_to f n) (get_or l n (f n)) (drop (suc n) l) (f n) n (length-up_to n), append_assoc)

  pub up_to-full : (i n : ℕ) (l ls : List A) → i ≡ n → length l ≡ n → ls ≡ up_to f i ++ drop i l → ls ≡ up_to f n
  up_to-full i n l ls q h e = rw (e, q, drop_of_length-le l {i = n} (omega arith), append-nil)

  -- element i
  pub up_to-at : (n i : ℕ) (d : A) → i < n → get_or (up_to f n) i d ≡ f i
  unfolding up_to
  up_to-at zero i d h = absurd (omega arith)
  up_to-at (suc n) i d h =
      ⊎_elim (λ (e : i ≡ n). rw e (get_or_at (up_to f n) (f n) [] d n (length-up_to n)))
      (λ (q : i < n). let k = length-up_to n in get_or-append (up_to f n) (f n ∷ []) d i (omega arith) ∙ up_to-at n i d q)
      (eq-or-lt_of_le (omega arith))

  -- what a turn reads: the element is still as it was
  pub up_to-read : (n : ℕ) (l ls : List A) (d : A) → n < length l → ls ≡ up_to f n ++ drop n l → get_or ls n d ≡ get_or l n d
  up_to-read n l ls d h e = rw (e, drop-cons l n d h, get_or_at (up_to f n) (get_or l n d) (drop (suc n) l) d n (length-up_to n))

-- lists that are filled alike
pub up_to-as : {A : Type 0} (f h : ℕ → A) (n : ℕ) → ((i : ℕ) → i < n → f i ≡ h i) → up_to f n ≡ up_to h n
unfolding up_to
up_to-as f h zero e = refl
up_to-as {A} f h (suc n) e = ap (λ (z : List A). z ++ (f n ∷ [])) (up_to-as f h n (λ i l. e i (omega arith))) ∙ ap (λ (z : A). up_to h n ++ (z ∷ [])) (e n (omega arith))

-- and of the elements that a list has
pub up_to-same : {A : Type 0} (l : List A) (d : A) (n : ℕ) → length l ≡ n → up_to (λ i. get_or l i d) n ≡ l
up_to-same l d n h = ext_get_or d _ l (length-up_to (λ i. get_or l i d) n ∙ sym h) (λ i k. let s = length-up_to (λ i. get_or l i d) n in up_to-at (λ i. get_or l i d) n i d (omega arith))

-- the parts, with another first one
abbrev pub behind : {A : Type 0} → List A → (ℕ → List A) → ℕ → List A
behind x f zero = x
behind x f (suc i) = f (suc i)

pub behind-at : {A : Type 0} (x : List A) (f : ℕ → List A) (i : ℕ) → 1 ≤ i → behind x f i ≡ f i
behind-at x f zero h = absurd (omega arith)
behind-at x f (suc i) h = refl

module _ {A : Type 0} (f : ℕ → List A) (n : ℕ) (sized : (i : ℕ) → length (f i) ≡ n) where
  pub length-join_to : (c : ℕ) → length (join_to f c) ≡ c * n
  unfolding join_to
  length-join_to zero = omega arith
  length-join_to (suc c) = rw (length-append, length-join_to c, sized c, suc-mul)

  -- what a turn of a loop over the parts leaves: part c, of n elements, is written
  pub join_to-again : (c k : ℕ) (l ls ys : List A) → k ≡ n → ls ≡ join_to f c ++ drop (c * n) l → ys ≡ f c
      → take (c * n) ls ++ (ys ++ drop k (drop (c * n) ls)) ≡ join_to f (c + 1) ++ drop ((c + 1) * n) l
  unfolding join_to
  join_to-again c k l ls ys q e y =
      rw (e, y, q, take_at (join_to f c) (drop (c * n) l) (c * n) (length-join_to c), drop_at (join_to f c) (drop (c * n) l) (c * n) (length-join_to c), drop-drop n (c * n) l, add-one c, suc-mul, append_assoc)

  pub join_to-full : (c k : ℕ) (l ls : List A) → c ≡ k → length l ≡ k * n → ls ≡ join_to f c ++ drop (c * n) l → ls ≡ join_to f k
  join_to-full c k l ls q h e = rw (e, q, drop_of_length-le l {i = k * n} (omega arith), append-nil)

-- ---- the parts behind the first are written first
module _ {A : Type 0} (f : ℕ → List A) (n : ℕ) (sized : (i : ℕ) → length (f i) ≡ n) where
  pub behind-sized : (x : List A) → length x ≡ n → (i : ℕ) → length (behind x f i) ≡ n
  behind-sized x h zero = h
  behind-sized x h (suc i) = sized (suc i)

  pub behind-first : (l : List A) → l ≡ join_to (behind (take n l) f) 1 ++ drop (1 * n) l
  unfolding join_to
  behind-first l = rw one-mul (sym (take-append-drop n l))

  replaced : (x : List A) → length x ≡ n → (k : ℕ) → f 0 ++ drop n (join_to (behind x f) (suc k)) ≡ join_to f (suc k)
  unfolding join_to
  replaced x h zero = rw (drop_of_length-le x {i = n} (omega arith), append-nil)
  replaced x h (suc k) =
      let m = length-join_to (behind x f) n (behind-sized x h) (suc k) in
      let s = suc-mul k n in
      rw (drop-append-le n (join_to (behind x f) (suc k)) (f (suc k)) (omega arith), ← append_assoc (f 0) (drop n (join_to (behind x f) (suc k))) (f (suc k)), replaced x h k)

  -- LAW: and then the first
  pub behind-last : (x ls ys : List A) (k : ℕ) → length x ≡ n → 1 ≤ k → ls ≡ join_to (behind x f) k → ys ≡ f 0 → ys ++ drop n ls ≡ join_to f k
  behind-last x ls ys zero h l e y = absurd (omega arith)
  behind-last x ls ys (suc k) h l e y = rw (e, y) (replaced x h k)

-- ---- lists of one value, and lists made longer by it
pub drop-replicate : {A : Type 0} (a : A) (n m : ℕ) → drop n (replicate m a) ≡ replicate (m - n) a
drop-replicate a zero m = let e : m - 0 ≡ m = omega arith in rw e
drop-replicate a (suc n) zero = let e : 0 - suc n ≡ 0 = omega arith in rw e
drop-replicate a (suc n) (suc m) = let e : suc m - suc n ≡ m - n = omega arith in rw e (drop-replicate a n m)

pub take-replicate : {A : Type 0} (a : A) (n k : ℕ) → n ≤ k → take n (replicate k a) ≡ replicate n a
take-replicate a zero k h = refl
take-replicate a (suc n) zero h = absurd (omega arith)
take-replicate a (suc n) (suc k) h = ap (λ t. a ∷ t) (take-replicate a n k (omega arith))

-- below the length of a list that was made longer, its elements
pub get_or-padded : {A : Type 0} (n : ℕ) (x d : A) (l : List A) (i : ℕ) → i < length l → get_or (padded n x l) i d ≡ get_or l i d
get_or-padded n x d l i h = get_or-append l (replicate (n - length l) x) d i h
