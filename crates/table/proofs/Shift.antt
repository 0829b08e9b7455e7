-- A parser's answer depends only on the bytes that it went over, wherever they stand: what was read at one position of one list
-- is read at another position of another that has the same bytes there. Assumes nothing.
use Prim.Native.Nat.{ℕ, zero, suc, ◌+◌, ◌*◌, ◌≤◌, ◌<◌}
use mathlib.Core.Path.{◌≡◌, refl, ap, sym, ◌∙◌}
use mathlib.Core.List.{List, [], ◌∷◌}
use mathlib.Core.Bool.{Bool, true, false}
use native.Mathlib.Omega.{arith}
use lib.ListN.{length, get_or, drop, length-drop}
use lib.Seq.{length-take-le, get_or-take, get_or-drop, ext_get_or}
use lib.Dec.{eqb}
use borrow.Author.Tests.{le-leb}
use Rattle.wire.specs.Parse.{Refusal, refusal, Parser, ok, asked, require, pure, ◌>>=◌, ◌>>◌, many}
use Rattle.wire.specs.Cursor.{part, le32, u32, string_of, string}
use Rattle.wire.specs.Utf8.{utf8}
use Rattle.wire.proofs.Found.{u32-got, u32-is, string-is}
use Rattle.wire.proofs.Many.{went, asked-ok}
use Rattle.table.specs.Table.{PitchEntry}
use Rattle.table.specs.Image.{text, counted, pair, pairs, entry}

-- the n bytes at one position are those at another
abbrev pub Alike : List ℕ → List ℕ → ℕ → ℕ → ℕ → Type 0
Alike s u at to n = (i : ℕ) → i < n → get_or s (at + i) 0 ≡ get_or u (to + i) 0

pub record Shifts {A : Type 0} (s u : List ℕ) (q : Parser A) (at e : ℕ) (a : A) : Type 0 where
  pub size : ℕ
  pub end : e ≡ at + size
  pub again : (to : ℕ) → Alike s u at to size → to + size ≤ length u → q u to ≡ ok a (to + size)

-- the parser reads again what it read
abbrev pub Again : {A : Type 0} → List ℕ → List ℕ → Parser A → Type 0
Again {A} s u p = (at e : ℕ) (a : A) → p s at ≡ ok a e → Shifts s u p at e a

module _ (s u : List ℕ) where
  -- ---- steps
  shift-bind : {A B : Type 0} (p : Parser A) (f : A → Parser B) → Again s u p → ((a : A) → Again s u (f a)) → Again s u (p >>= f)
  shift-bind p f lp lf at e b h =
      went (p s at) (λ a next. f a s next) b e h λ a m r h₁.
      let x = lp at m a r in
      let y = lf a m e b h₁ in
      let i : m ≡ at + x.size = x.end in
      let j : e ≡ m + y.size = y.end in
      record {
        size = x.size + y.size;
        end = omega arith;
        again = λ to k l.
            let z : to + x.size + y.size ≡ to + (x.size + y.size) = omega arith in
            rw (x.again to (λ n v. k n (omega arith)) (omega arith))
            (y.again (to + x.size) (λ n v. let w : m + n ≡ at + (x.size + n) = omega arith in let o : to + (x.size + n) ≡ to + x.size + n = omega arith in ap (λ (d : ℕ). get_or s d 0) w ∙ k (x.size + n) (omega arith) ∙ ap (λ (d : ℕ). get_or u d 0) o) (omega arith)
            ∙ ap (λ (d : ℕ). ok b d) z);
      }

  shift-seq : {A B : Type 0} (p : Parser A) (f : Parser B) → Again s u p → Again s u f → Again s u (p >> f)
  shift-seq p f lp lf = shift-bind p (λ a. f) lp (λ a. lf)

  shift-pure : {A : Type 0} (a : A) → Again s u (pure a)
  shift-pure a at e b h =
      let z : at ≡ e = cc in
      let q : a ≡ b = cc in
      record { size = 0; end = omega arith; again = λ to k l. let w : to ≡ to + 0 = omega arith in rw q (ap (λ (d : ℕ). ok b d) w) }

  shift-ask : (b : Bool) (r : Refusal) → Again s u (require b r)
  shift-ask true r at e x h = shift-pure true at e x h
  shift-ask false r at e x h = let z : ◌≡◌ {A = ℕ} 0 1 = cc in absurd (omega arith)

  pub shift-many : {A : Type 0} (p : ℕ → Parser A) → ((i : ℕ) → Again s u (p i)) → (n i : ℕ) → Again s u (many p i n)
  unfolding many
  shift-many p lp zero i = shift-pure []
  shift-many p lp (suc n) i =
      shift-bind (p i) (λ a. many p (i + 1) n >>= (λ l. pure (a ∷ l))) (lp i) λ a.
      shift-bind (many p (i + 1) n) (λ l. pure (a ∷ l)) (shift-many p lp n (i + 1)) λ l.
      shift-pure (a ∷ l)

  -- ---- fields
  le32-alike : (at to : ℕ) → Alike s u at to 4 → le32 s at ≡ le32 u to
  le32-alike at to k =
      let x : at + 0 ≡ at = omega arith in
      let y : to + 0 ≡ to = omega arith in
      let a : get_or s at 0 ≡ get_or u to 0 = ap (λ (d : ℕ). get_or s d 0) (sym x) ∙ k 0 (omega arith) ∙ ap (λ (d : ℕ). get_or u d 0) y in
      let b : get_or s (at + 1) 0 ≡ get_or u (to + 1) 0 = k 1 (omega arith) in
      let c : get_or s (at + 2) 0 ≡ get_or u (to + 2) 0 = k 2 (omega arith) in
      let d : get_or s (at + 3) 0 ≡ get_or u (to + 3) 0 = k 3 (omega arith) in
      omega arith

  part-alike : (at to n : ℕ) → Alike s u at to n → at + n ≤ length s → to + n ≤ length u → part s at n ≡ part u to n
  part-alike at to n k p q =
      let x : length (part s at n) ≡ n = length-take-le n (drop at s) (simp length-drop (omega arith)) in
      let y : length (part u to n) ≡ n = length-take-le n (drop to u) (simp length-drop (omega arith)) in
      ext_get_or 0 (part s at n) (part u to n) (x ∙ sym y) λ i h.
      let j : i < n = omega arith in
      get_or-take n (drop at s) i 0 j ∙ get_or-drop at s i 0 ∙ k i j ∙ sym (get_or-drop to u i 0) ∙ sym (get_or-take n (drop to u) i 0 j)

  pub shift-u32 : Again s u u32
  shift-u32 at e v h =
      let i = u32-is s at v e h in
      record {
        size = 4;
        end = i.end;
        again = λ to k l. u32-got u to l ∙ rw (i.value, le32-alike at to k) refl;
      }

  pub shift-text : Again s u text
  unfolding string string_of
  shift-text at e l h =
      went (string s at) (λ p next. ok (part s p.start p.len) next) l e h λ p m g h₁.
      let i = string-is s at m p g in
      let there : p.start + p.len ≤ length s = i.there in
      let start : p.start ≡ at + 4 = i.start in
      let end : m ≡ p.start + p.len = i.end in
      let z : m ≡ e = cc in
      let q : part s p.start p.len ≡ l = cc in
      record {
        size = 4 + p.len;
        end = omega arith;
        again = λ to k r.
            let n : le32 u to ≡ p.len = sym (le32-alike at to (λ j v. k j (omega arith))) ∙ sym i.size in
            let same : part s p.start p.len ≡ part u (to + 4) p.len =
            part-alike p.start (to + 4) p.len
            (λ j v. let w : p.start + j ≡ at + (4 + j) = omega arith in let o : to + (4 + j) ≡ to + 4 + j = omega arith in ap (λ (d : ℕ). get_or s d 0) w ∙ k (4 + j) (omega arith) ∙ ap (λ (d : ℕ). get_or u d 0) o)
            there (omega arith) in
            let good : utf8 (part u (to + 4) p.len) ≡ true = ap utf8 (sym same) ∙ i.valid in
            let last : to + 4 + p.len ≡ to + (4 + p.len) = omega arith in
            rw (u32-got u to (omega arith), n, le-leb (to + 4 + p.len) (length u) (omega arith), good, last) (ap (λ (x : List ℕ). ok x (to + (4 + p.len))) (sym same ∙ q));
      }

  -- ---- parts of an image
  shift-counted : Again s u counted
  unfolding counted
  shift-counted = shift-bind u32 (λ n. many (λ i. u32) 0 n) shift-u32 λ n. shift-many (λ i. u32) (λ i. shift-u32) n 0

  shift-pair : Again s u pair
  unfolding pair
  shift-pair =
      shift-bind text (λ k. u32 >>= (λ v. pure (record { key = k; value = v }))) shift-text λ k.
      shift-bind u32 (λ v. pure (record { key = k; value = v })) shift-u32 λ v.
      shift-pure (record { key = k; value = v })

  pub shift-entry : (i : ℕ) → Again s u (entry i)
  unfolding entry
  shift-entry i =
      shift-bind u32 _ shift-u32 λ f.
      shift-bind u32 _ shift-u32 λ st.
      shift-bind counted _ shift-counted λ fs.
      shift-bind u32 _ shift-u32 λ k.
      shift-bind u32 _ shift-u32 λ j.
      shift-bind counted _ shift-counted λ cs.
      shift-bind u32 _ shift-u32 λ q.
      shift-bind (pairs q) _ (shift-many (λ i. pair) (λ i. shift-pair) q 0) λ ms.
      shift-seq (require (eqb (k * (length fs + j)) (length cs)) (refusal 6 i 0)) _ (shift-ask (eqb (k * (length fs + j)) (length cs)) (refusal 6 i 0))
      (shift-pure (record { f0_hz = f; stretch = st; partial_freqs = fs; k_channels = k; j_noise = j; coefficients = cs; metadata = ms }))

-- an entry's index is told only in its refusal

-- ---- at the same position
-- the bytes from one position to another are the same
abbrev pub AlikeTo : List ℕ → List ℕ → ℕ → ℕ → Type 0
AlikeTo s u at e = (i : ℕ) → at ≤ i → i < e → get_or s i 0 ≡ get_or u i 0

pub record Stays {A : Type 0} (s u : List ℕ) (q : Parser A) (at e : ℕ) (a : A) : Type 0 where
  pub order : at ≤ e
  pub again : AlikeTo s u at e → e ≤ length u → q u at ≡ ok a e

pub stays : {A : Type 0} (s u : List ℕ) (q : Parser A) → Again s u q → (at e : ℕ) (a : A) → q s at ≡ ok a e → Stays s u q at e a
stays s u q lq at e a h =
    let x = lq at e a h in
    let z : e ≡ at + x.size = x.end in
    record {
      order = omega arith;
      again = λ k l. x.again at (λ i v. k (at + i) (omega arith) (omega arith)) (omega arith) ∙ ap (λ (d : ℕ). ok a d) (sym z);
    }

-- the index of an entry is told by its refusal only
pub entry-index : (i j : ℕ) (s : List ℕ) (at e : ℕ) (a : PitchEntry) → entry i s at ≡ ok a e → entry j s at ≡ ok a e
unfolding entry
entry-index i j s at e a h =
    went (u32 s at) _ a e h λ f m₁ g₁ h₁.
    went (u32 s m₁) _ a e h₁ λ st m₂ g₂ h₂.
    went (counted s m₂) _ a e h₂ λ fs m₃ g₃ h₃.
    went (u32 s m₃) _ a e h₃ λ k m₄ g₄ h₄.
    went (u32 s m₄) _ a e h₄ λ n m₅ g₅ h₅.
    went (counted s m₅) _ a e h₅ λ cs m₆ g₆ h₆.
    went (u32 s m₆) _ a e h₆ λ q m₇ g₇ h₇.
    went (pairs q s m₇) _ a e h₇ λ ms m₈ g₈ h₈.
    went (asked (eqb (k * (length fs + n)) (length cs)) m₈ (refusal 6 i 0)) _ a e h₈ λ x m₉ g₉ h₉.
    let w = asked-ok (eqb (k * (length fs + n)) (length cs)) m₈ m₉ (refusal 6 i 0) x g₉ in
    rw (g₁, g₂, g₃, g₄, g₅, g₆, g₇, g₈, w.0, w.1) h₉
