-- Laws on a text that is cut into pieces as it is gone through: the piece at hand starts at one place of the text and goes to another.
-- Assumes nothing.
use Rattle.std.proofs.Common.{◌≡◌, ℕ, suc, ◌+◌, ◌-◌, ◌<◌, ◌≤◌, Bool, true, false, cond, List, [], ◌∷◌, ◌++◌, length, get_or, take, drop, sym, refl, ap, ◌∙◌, append_assoc, append-nil, add-one, arith, length-drop, drop_of_length-le, get_or-drop, drop-cons, take-suc}
use Rattle.std.specs.List.{onto_first}
use Rattle.console.specs.Pieces.{pieces_of}

-- the first piece with its beginning
unfoldable pub begun : List ℕ → List (List ℕ) → List (List ℕ)
begun w [] = w ∷ []
begun w (l ∷ ls) = (w ++ l) ∷ ls

begun-front : (w : List ℕ) (b : ℕ) (ls : List (List ℕ)) → begun w (onto_first b ls) ≡ begun (w ++ (b ∷ [])) ls
unfolding begun
begun-front w b [] = refl
begun-front w b (l ∷ ls) = ap (λ (x : List ℕ). x ∷ ls) (sym (append_assoc w (b ∷ []) l))

front-begun : (b : ℕ) (ls : List (List ℕ)) → begun [] (onto_first b ls) ≡ onto_first b ls
unfolding begun
front-begun b [] = refl
front-begun b (l ∷ ls) = refl

begun-either : (t : Bool) (x y : List (List ℕ)) → begun [] x ≡ x → begun [] y ≡ y → begun [] (cond t x y) ≡ cond t x y
begun-either true x y h g = h
begun-either false x y h g = g

begun-none : (cuts : ℕ → Bool) (text : List ℕ) → begun [] (pieces_of cuts text) ≡ pieces_of cuts text
unfolding begun
begun-none cuts [] = refl
begun-none cuts (b ∷ bs) =
    begun-either (cuts b) ([] ∷ pieces_of cuts bs) (onto_first b (pieces_of cuts bs)) refl (front-begun b (pieces_of cuts bs))

-- the piece at hand, and all from it on
abbrev pub between : List ℕ → ℕ → ℕ → List ℕ
between text from i = take (i - from) (drop from text)

unfoldable pub pieces_from : (ℕ → Bool) → List ℕ → ℕ → ℕ → List (List ℕ)
pieces_from cuts text from i = begun (between text from i) (pieces_of cuts (drop i text))

module _ (cuts : ℕ → Bool) where
  cut-here : (w : List ℕ) (b : ℕ) (bs : List ℕ) → cuts b ≡ true → begun w (pieces_of cuts (b ∷ bs)) ≡ w ∷ pieces_of cuts bs
  unfolding begun
  cut-here w b bs e = rw (e, append-nil)

  goes_on : (w : List ℕ) (b : ℕ) (bs : List ℕ) → cuts b ≡ false → begun w (pieces_of cuts (b ∷ bs)) ≡ begun (w ++ (b ∷ [])) (pieces_of cuts bs)
  goes_on w b bs e = rw e (begun-front w b (pieces_of cuts bs))

  at-end : (w text : List ℕ) → text ≡ [] → begun w (pieces_of cuts text) ≡ w ∷ []
  unfolding begun
  at-end w text e = rw (e, append-nil)

-- the piece at hand with one byte more
longer : (text : List ℕ) (from i : ℕ) → from ≤ i → i < length text → between text from (i + 1) ≡ between text from i ++ (get_or text i 0 ∷ [])
longer text from i l h =
    let n : i + 1 - from ≡ suc (i - from) = omega arith in
    let m : from + (i - from) ≡ i = omega arith in
    ap (λ (k : ℕ). take k (drop from text)) n
    ∙ take-suc (drop from text) (i - from) 0 (rw length-drop (omega arith))
    ∙ ap (λ (b : ℕ). between text from i ++ (b ∷ [])) (get_or-drop from text (i - from) 0 ∙ ap (λ (k : ℕ). get_or text k 0) m)

module _ (cuts : ℕ → Bool) (text : List ℕ) where
  pub pieces-first : pieces_from cuts text 0 0 ≡ pieces_of cuts text
  unfolding pieces_from
  pieces-first = begun-none cuts text

  none-begun : (i n : ℕ) → n ≡ 0 → pieces_of cuts (drop i text) ≡ begun (take n (drop i text)) (pieces_of cuts (drop i text))
  none-begun i n e = rw e (sym (begun-none cuts (drop i text)))

  -- a byte that cuts ends the piece
  pub piece_cut : (from i : ℕ) → i < length text → cuts (get_or text i 0) ≡ true →
      pieces_from cuts text from i ≡ between text from i ∷ pieces_from cuts text (i + 1) (i + 1)
  unfolding pieces_from
  piece_cut from i h e =
      ap (λ (l : List ℕ). begun (between text from i) (pieces_of cuts l)) (drop-cons text i 0 h)
      ∙ cut-here cuts (between text from i) (get_or text i 0) (drop (suc i) text) e
      ∙ ap (λ (k : ℕ). between text from i ∷ pieces_of cuts (drop k text)) (sym (add-one i))
      ∙ ap (λ (l : List (List ℕ)). between text from i ∷ l) (none-begun (i + 1) (i + 1 - (i + 1)) (omega arith))

  -- any other makes it longer
  pub piece-on : (from i : ℕ) → from ≤ i → i < length text → cuts (get_or text i 0) ≡ false →
      pieces_from cuts text from i ≡ pieces_from cuts text from (i + 1)
  unfolding pieces_from
  piece-on from i l h e =
      ap (λ (l : List ℕ). begun (between text from i) (pieces_of cuts l)) (drop-cons text i 0 h)
      ∙ goes_on cuts (between text from i) (get_or text i 0) (drop (suc i) text) e
      ∙ ap (λ (k : ℕ). begun (between text from i ++ (get_or text i 0 ∷ [])) (pieces_of cuts (drop k text))) (sym (add-one i))
      ∙ ap (λ (w : List ℕ). begun w (pieces_of cuts (drop (i + 1) text))) (sym (longer text from i l h))

  -- the last piece
  pub piece-last : (from i : ℕ) → length text ≤ i → i ≤ length text → pieces_from cuts text from i ≡ between text from (length text) ∷ []
  unfolding pieces_from
  piece-last from i l h =
      let e : i ≡ length text = omega arith in
      rw e (at-end cuts (between text from (length text)) (drop (length text) text) (drop_of_length-le text {i = length text} (omega arith)))
