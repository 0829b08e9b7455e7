-- Laws of lists put one after the other into one: what stands where, and what the stores leave. Assumes nothing.
use Prim.Native.Nat.{ℕ, zero, suc, ◌+◌, ◌-◌, ◌*◌, ◌≤◌, ◌<◌}
use mathlib.Core.Path.{◌≡◌, refl, ap, sym, ◌∙◌}
use mathlib.Core.Logic.{⊎_elim}
use mathlib.Core.List.{List, [], ◌++◌, map, append_assoc, append-nil}
use native.Mathlib.Omega.{arith}
use native.Mathlib.Numerals.{add-one}
use native.Mathlib.Nat.{eq-or-lt_of_le}
use lib.ListN.{length, take, drop, get_or, length-append, length-drop, length-map, length-replicate, take-append-drop, get_or-append}
use Rattle.std.proofs.lemmas.List.{get_or-take, get_or-drop}
use lib.Seq.{length-take-le, get_or-append-add, drop-drop, drop_at, take_at}
use lib.Ieee.{Float, nan}
use Rattle.voice.specs.Lists.{join_to, padded}
use Rattle.voice.specs.Voice.{list_at}
use Rattle.voice.proofs.Loops.{up_to-as, up_to-same, length-join_to, row_below}
use Rattle.filters.specs.Band.{zero_coeffs}
use Rattle.filters.specs.declared.biquad.BiquadCoeffs.{BiquadCoeffs}
use Rattle.voice.specs.Bands.{coeff_floats}

pub length-padded : {A : Type 0} (z : A) (n : ℕ) (l : List A) → length l ≤ n → length (padded n z l) ≡ n
length-padded z n l h = let a = length-replicate (n - length l) z in rw length-append (omega arith)

pub length-mapped : {A B : Type 0} (g : A → B) (z : B) (n : ℕ) (l : List A) → length l ≤ n → length (padded n z (map g l)) ≡ n
length-mapped g z n l h = length-padded z n (map g l) (rw (length-map l g) h)

pub get_d_past : {A : Type 0} (xs rest : List A) (n i : ℕ) (d : A) → length xs ≡ n → get_or (xs ++ rest) (n + i) d ≡ get_or rest i d
get_d_past xs rest n i d e = rw (← e) (get_or-append-add xs rest i d)

-- list n where it lies
pub list-is : (xs : List Float) (n : ℕ) → n * 16 + 16 ≤ length xs → take 16 (drop (n * 16) xs) ≡ list_at xs n
unfolding list_at
list-is xs n h =
    let part = take 16 (drop (n * 16) xs) in
    let long : length part ≡ 16 = length-take-le 16 (drop (n * 16) xs) (omega (arith, length-drop (n * 16) xs)) in
    sym (up_to-as _ (λ i. get_or part i nan) 16 (λ i l. sym (get_or-take 16 (drop (n * 16) xs) i nan l ∙ get_or-drop (n * 16) xs i nan)) ∙ up_to-same part nan 16 long)

-- list 0 is the first; the others are those of the rest
pub list-first : (xs rest : List Float) → length xs ≡ 16 → list_at (xs ++ rest) 0 ≡ xs
unfolding list_at
list-first xs rest h =
    up_to-as _ (λ i. get_or xs i nan) 16 (λ i l. let q : 0 * 16 + i ≡ i = omega arith in rw q (get_or-append xs rest nan i (omega arith)))
    ∙ up_to-same xs nan 16 h

pub list-later : (xs rest : List Float) (n : ℕ) → length xs ≡ 16 → list_at (xs ++ rest) (suc n) ≡ list_at rest n
unfolding list_at
list-later xs rest n h =
    up_to-as _ _ 16 (λ i l. let q : suc n * 16 + i ≡ 16 + (n * 16 + i) = omega arith in rw q (get_d_past xs rest 16 (n * 16 + i) nan h))

-- place i of part b
pub join_to-at : {A : Type 0} (f : ℕ → List A) (n : ℕ) → ((i : ℕ) → length (f i) ≡ n) → (c b i : ℕ) (d : A) → b < c → i < n
    → get_or (join_to f c) (b * n + i) d ≡ get_or (f b) i d
unfolding join_to
join_to-at f n sized zero b i d h l = absurd (omega arith)
join_to-at f n sized (suc c) b i d h l =
    let m = length-join_to f n sized c in
    ⊎_elim (λ (e : b ≡ c). rw (e, ← m) (get_or-append-add (join_to f c) (f c) i d))
    (λ (q : b < c).
    let w = row_below b c n i q l in
    get_or-append (join_to f c) (f c) d (b * n + i) (omega arith) ∙ join_to-at f n sized c b i d q l)
    (eq-or-lt_of_le (omega arith))

-- ---- lists are put at a place, one after the other: the loop's start and its end
pub put-start : {A : Type 0} (l : List A) (at n : ℕ) → n ≡ at → l ≡ (take at l ++ []) ++ drop n l
put-start l at n q = rw (q, append-nil (take at l)) (sym (take-append-drop at l))

pub put-end : {A : Type 0} (xs l ls : List A) (at m n : ℕ) → m ≡ n → ls ≡ (take at l ++ xs) ++ drop m l → ls ≡ take at l ++ (xs ++ drop n l)
put-end xs l ls at m n q e = e ∙ rw (q) (append_assoc (take at l) xs (drop n l))

-- a list put after those that are there
pub put_next : {A : Type 0} (p xs l ls r : List A) (n m : ℕ) → length p ≡ n → n ≤ m → ls ≡ p ++ drop n l → r ≡ take n ls ++ (xs ++ drop m ls)
    → r ≡ (p ++ xs) ++ drop m l
put_next p xs l ls r n m q k e f =
    let j : n + (m - n) ≡ m = omega arith in
    let d : drop m (p ++ drop n l) ≡ drop m l =
    ap (λ (x : ℕ). drop x (p ++ drop n l)) (sym j) ∙ sym (drop-drop (m - n) n (p ++ drop n l)) ∙ ap (drop (m - n)) (drop_at p (drop n l) n q) ∙ drop-drop (m - n) n l ∙ ap (λ (x : ℕ). drop x l) j in
    f ∙ rw (e, take_at p (drop n l) n q, d) (sym (append_assoc p xs (drop m l)))

-- a turn of the loop over the bands
pub bands-again : (bands : List BiquadCoeffs) (l ls r : List Float) (at b : ℕ) → at + b * 5 + 5 ≤ length l
    → ls ≡ (take at l ++ join_to (λ i. coeff_floats (get_or bands i zero_coeffs)) b) ++ drop (at + b * 5) l
    → r ≡ take (at + b * 5) ls ++ (coeff_floats (get_or bands b zero_coeffs) ++ drop (at + b * 5 + 5) ls)
    → r ≡ (take at l ++ join_to (λ i. coeff_floats (get_or bands i zero_coeffs)) (b + 1)) ++ drop (at + (b + 1) * 5) l
unfolding join_to
bands-again bands l ls r at b k e x =
    let f : ℕ → List Float = λ i. coeff_floats (get_or bands i zero_coeffs) in
    let q : length (take at l ++ join_to f b) ≡ at + b * 5 = rw (length-append, length-take-le at l (omega arith), length-join_to f 5 (λ i. refl) b) refl in
    let w : at + (b + 1) * 5 ≡ at + b * 5 + 5 = omega arith in
    put_next (take at l ++ join_to f b) (f b) l ls r (at + b * 5) (at + b * 5 + 5) q (omega arith) e x
    ∙ rw (w, add-one b) (ap (λ t. t ++ drop (at + b * 5 + 5) l) (append_assoc (take at l) (join_to f b) (f b)))
