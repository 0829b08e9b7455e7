-- Laws of 32-bit numbers that stand one after the other, and of a count with its numbers. Assumes nothing.
use Prim.Native.Nat.{ℕ, zero, suc, ◌+◌, ◌*◌, ◌≤◌, ◌<◌}
use mathlib.Core.Path.{◌≡◌, refl, ap, ◌∙◌}
use mathlib.Core.List.{List, [], ◌∷◌}
use native.Mathlib.Omega.{arith}
use native.Mathlib.Decide.{dec_le}
use lib.ListN.{length, get_or, get_or-eq_default}
use Rattle.wire.specs.Parse.{Refusal, ok, refused, then, many}
use Rattle.wire.specs.Cursor.{le32, u32, take_at, unexpected_eof}
use Rattle.wire.proofs.Found.{u32-got, u32-short, u32-is, take-is, take_short, take_eof}
use Rattle.wire.proofs.Many.{went}
use Rattle.table.specs.Image.{counted}
use Rattle.table.specs.View.{word_list}

pub length-words : (s : List ℕ) (at n : ℕ) → length (word_list s at n) ≡ n
unfolding word_list
length-words s at zero = refl
length-words s at (suc n) = ap suc (length-words s (at + 4) n)

pub words-ok : (n i : ℕ) (s : List ℕ) (at : ℕ) → at + 4 * n ≤ length s → many (λ i. u32) i n s at ≡ ok (word_list s at n) (at + 4 * n)
unfolding many word_list
words-ok zero i s at h = ap (ok []) (omega arith)
words-ok (suc n) i s at h =
    let g = words-ok n (i + 1) s (at + 4) (omega arith) in
    let p : at + 4 + 4 * n ≡ at + 4 * suc n = omega arith in
    rw (u32-got s at (omega arith), g, p) refl

pub words-short : (n i : ℕ) (s : List ℕ) (at : ℕ) → at ≤ length s → length s < at + 4 * n → many (λ i. u32) i n s at ≡ refused unexpected_eof
unfolding many
words-short zero i s at p h = absurd (omega arith)
words-short (suc n) i s at p h = go (dec_le (at + 4) (length s)) (words-short n (i + 1) s (at + 4))
  where
    go : Dec (at + 4 ≤ length s) → (at + 4 ≤ length s → length s < at + 4 + 4 * n → many (λ i. u32) (i + 1) n s (at + 4) ≡ refused unexpected_eof) → many (λ i. u32) i (suc n) s at ≡ refused unexpected_eof
    go (yes q) ih = let g = ih q (omega arith) in rw (u32-got s at q, g) refl
    go (no q) ih = rw (u32-short s at (omega arith)) refl

-- numbers that were read are those that stand there
pub words_are : (n i : ℕ) (s : List ℕ) (at e : ℕ) (l : List ℕ) → many (λ i. u32) i n s at ≡ ok l e → word_list s at (length l) ≡ l
unfolding many word_list
words_are zero i s at e l h = let q : l ≡ [] = cc in rw q refl
words_are (suc n) i s at e l h =
    went (u32 s at) (λ a next. then (many (λ i. u32) (i + 1) n s next) (λ l e. ok (a ∷ l) e)) l e h λ a m g h₁.
    went (many (λ i. u32) (i + 1) n s m) (λ l e. ok (a ∷ l) e) l e h₁ λ k x g₂ h₂.
    let q : l ≡ a ∷ k = cc in
    let w = u32-is s at a m g in
    rw (q, ← w.value, ← w.end, words_are n (i + 1) s m x k g₂) refl

pub counted-are : (s : List ℕ) (at e : ℕ) (l : List ℕ) → counted s at ≡ ok l e → word_list s (at + 4) (length l) ≡ l
unfolding counted
counted-are s at e l h =
    went (u32 s at) (λ n next. many (λ i. u32) 0 n s next) l e h λ n m g h₁.
    rw (← (u32-is s at n m g).end) (words_are n 0 s m e l h₁)

-- a count and its numbers, by what the code found
pub counted_none : (s : List ℕ) (at : ℕ) (r : Refusal) → u32 s at ≡ refused r → counted s at ≡ refused r
unfolding counted
counted_none s at r e = rw e refl

pub counted-ok : (s : List ℕ) (at n start a end : ℕ) → u32 s at ≡ ok n start → take_at (4 * n) s start ≡ ok a end → counted s at ≡ ok (word_list s start n) end
unfolding counted
counted-ok s at n start a end e f =
    let w = take-is s start (4 * n) a end f in
    rw (e, words-ok n 0 s start w.there, w.end) refl

pub counted-short : (s : List ℕ) (at n start : ℕ) (r : Refusal) → u32 s at ≡ ok n start → take_at (4 * n) s start ≡ refused r → counted s at ≡ refused r
unfolding counted
counted-short s at n start r e f =
    let w = u32-is s at n start e in
    let q : r ≡ unexpected_eof = take_eof s start (4 * n) r f in
    rw (e, words-short n 0 s start (omega arith) (take_short s start (4 * n) r f), q) refl

-- one of them by its index
pub word-at-index : (n : ℕ) (s : List ℕ) (at i : ℕ) → i < n → get_or (word_list s at n) i 0 ≡ le32 s (at + 4 * i)
unfolding word_list
word-at-index zero s at i h = absurd (omega arith)
word-at-index (suc n) s at zero h = let p : at ≡ at + 4 * 0 = omega arith in ap (le32 s) p
word-at-index (suc n) s at (suc i) h =
    let p : at + 4 + 4 * i ≡ at + 4 * suc i = omega arith in
    word-at-index n s (at + 4) i (omega arith) ∙ ap (le32 s) p

pub word-past : (n : ℕ) (s : List ℕ) (at i : ℕ) → n ≤ i → get_or (word_list s at n) i 0 ≡ 0
word-past n s at i h = get_or-eq_default (word_list s at n) 0 (rw (length-words s at n) h)

pub le32-past : (s : List ℕ) (p : ℕ) → length s ≤ p → le32 s p ≡ 0
le32-past s p h =
    simp (get_or-eq_default s 0 {n = p} h, get_or-eq_default s 0 {n = p + 1} (omega arith), get_or-eq_default s 0 {n = p + 2} (omega arith), get_or-eq_default s 0 {n = p + 3} (omega arith))

pub word-outside : (n : ℕ) (s : List ℕ) (at i : ℕ) → i < n → length s ≤ at → get_or (word_list s at n) i 0 ≡ 0
word-outside n s at i h g = word-at-index n s at i h ∙ le32-past s (at + 4 * i) (omega arith)
