-- Laws of what was read, by its counts: where two numbers with a counted list, pairs and an entry end. Assumes nothing.
use Prim.Native.Nat.{ℕ, zero, suc, ◌+◌, ◌-◌, ◌*◌, ◌≤◌, ◌<◌}
use mathlib.Core.Path.{◌≡◌, refl, ap, sym, ◌∙◌}
use mathlib.Core.List.{List, ◌∷◌}
use mathlib.Core.Bool.{true}
use native.Mathlib.Omega.{arith}
use lib.ListN.{length}
use lib.Dec.{eqb}
use Rattle.std.specs.Prelude.{Result, Ok, Err, IsOk}
use Rattle.wire.specs.Parse.{Refusal, refusal, Parser, Parsed, ok, refused, asked, then, many}
use Rattle.wire.specs.Cursor.{le32, u32, next_position}
use Rattle.wire.proofs.Found.{u32-got, u32-is}
use Rattle.wire.proofs.Many.{whole, went, asked-ok, many-go, many-end, many-length}
use Rattle.table.specs.Table.{Pair, PitchEntry}
use Rattle.table.specs.Image.{counted, pair, pairs, entry}
use Rattle.table.specs.inner.Entry.{Numbers, numbers, metadata, entry_by}
use Rattle.table.proofs.MetadataLaws.{was_read, next-read, pair_parts}
use Rattle.table.proofs.SizeLaws.{counted-end}
use Rattle.table.proofs.EntryLaws.{entry-by}
use Rattle.table.specs.inner.Answers.{reads}

-- what is not refused has a value
pub never-refused : {T E : Type 0} (r : Result T E) → ((e : E) → r ≡ Err e → ⊥) → IsOk r
never-refused (Ok x) h = refl
never-refused (Err e) h = absurd (h e refl)

-- a number that is there is read
pub number-there : (s : List ℕ) (at : ℕ) (r : Refusal) → at + 4 ≤ length s → u32 s at ≡ refused r → ⊥
number-there s at r h g =
    let e = u32-got s at h in
    let z : ◌≡◌ {A = ℕ} 0 1 = cc in
    omega arith

-- things one after the other end where those after the first end
next-cons : {A : Type 0} (a : A) (r : Parsed (List A)) (at next : ℕ) → reads r ≡ true → next_position (then r (λ l x. ok (a ∷ l) x)) at ≡ next_position r next
next-cons a (ok l x) at next h = refl
next-cons a (refused r) at next h = let z : ◌≡◌ {A = ℕ} 0 1 = cc in absurd (omega arith)

-- things one after the other end within the list, where each does
inside-many : {A : Type 0} (p : ℕ → Parser A) (s : List ℕ) → ((i at e : ℕ) (a : A) → p i s at ≡ ok a e → e ≤ length s)
    → (n i at e : ℕ) (l : List A) → at ≤ length s → many p i n s at ≡ ok l e → e ≤ length s
unfolding many
inside-many p s one zero i at e l h g = let z : at ≡ e = cc in omega arith
inside-many p s one (suc n) i at e l h g =
    went (p i s at) (λ a next. then (many p (i + 1) n s next) (λ l e. ok (a ∷ l) e)) l e g λ a m g₁ h₁.
    went (many p (i + 1) n s m) (λ l e. ok (a ∷ l) e) l e h₁ λ k x g₂ h₂.
    let z : x ≡ e = cc in
    let y : x ≤ length s = inside-many p s one n (i + 1) m x k (one i at m a g₁) g₂ in
    omega arith

-- ---- two numbers, a count and as many numbers
pub record NumbersEnd (s : List ℕ) (at e : ℕ) : Type 0 where
  pub there : at + 12 ≤ length s
  pub end : e ≡ at + 12 + 4 * le32 s (at + 8)
  pub inside : e ≤ length s

numbers-is : (s : List ℕ) (at e : ℕ) (x : Numbers) → numbers s at ≡ ok x e → NumbersEnd s at e
unfolding numbers counted
numbers-is s at e x h =
    went (u32 s at) _ x e h λ a m₁ g₁ h₁.
    went (u32 s m₁) _ x e h₁ λ b m₂ g₂ h₂.
    went (counted s m₂) _ x e h₂ λ l m₃ g₃ h₃.
    went (u32 s m₂) (λ n next. many (λ i. u32) 0 n s next) l m₃ g₃ λ n m₄ g₄ h₄.
    let i = u32-is s at a m₁ g₁ in
    let j = u32-is s m₁ b m₂ g₂ in
    let k = u32-is s m₂ n m₄ g₄ in
    let p : m₁ ≡ at + 4 = i.end in
    let q : m₂ ≡ m₁ + 4 = j.end in
    let r : m₄ ≡ m₂ + 4 = k.end in
    let t : m₂ + 4 ≤ length s = k.there in
    let o : m₂ ≡ at + 8 = omega arith in
    let v : n ≡ le32 s (at + 8) = k.value ∙ ap (le32 s) o in
    let c : length l ≡ n = many-length (λ i. u32) s n 0 m₄ m₃ l h₄ in
    let w : m₃ ≡ m₂ + 4 + 4 * length l = counted-end s m₂ m₃ l g₃ in
    let z : m₃ ≡ e = cc in
    let y : m₃ ≤ length s = inside-many (λ i. u32) s (λ i at e a g. let u = u32-is s at a e g in omega arith) n 0 m₄ m₃ l (omega arith) h₄ in
    record { there = omega arith; end = omega arith; inside = omega arith }

pub numbers-end : (s : List ℕ) (at : ℕ) → reads (numbers s at) ≡ true → NumbersEnd s at (next_position (numbers s at) at)
numbers-end s at h = was_read (numbers s at) h λ x e g. rw g (numbers-is s at e x g)

-- ---- pairs
pub record PairEnd (s : List ℕ) (at e : ℕ) : Type 0 where
  pub there : at + 4 ≤ length s
  pub end : e ≡ at + (8 + le32 s at)
  pub inside : e ≤ length s

pair_is : (s : List ℕ) (at e : ℕ) (a : Pair) → pair s at ≡ ok a e → PairEnd s at e
pair_is s at e a h =
    let p = pair_parts s at e a h in
    let room : at + 4 + le32 s at + 4 ≤ length s = p.room in
    let end : e ≡ at + 4 + le32 s at + 4 = p.end in
    record { there = p.there; end = omega arith; inside = omega arith }

-- what the loop over pairs holds: `d` is where the next one stands
pub record Skipping (s : List ℕ) (n at d i : ℕ) : Type 0 where
  pub upto : i ≤ n
  pub inside : d ≤ length s
  pub left : reads (many (λ i. pair) i (n - i) s d) ≡ true
  pub end : next_position (many (λ i. pair) i (n - i) s d) d ≡ next_position (pairs n s at) at

module _ (s : List ℕ) (n at : ℕ) where
  pub skip-start : reads (pairs n s at) ≡ true → at ≤ length s → Skipping s n at at 0
  skip-start h g = record { upto = omega arith; inside = g; left = rw whole h; end = rw whole refl }

  pub record Turn (d i : ℕ) : Type 0 where
    pub pair : PairEnd s d (d + (8 + le32 s d))
    pub next : Skipping s n at (d + (8 + le32 s d)) (i + 1)

  pub skip-turn : (d i : ℕ) → Skipping s n at d i → i < n → Turn d i
  skip-turn d i w less =
      next-read (λ i. pair) s i n d less w.left λ q e g left.
      let p = pair_is s d e q g in
      let more = many (λ i. pair) (i + 1) (n - (i + 1)) s e in
      let step : many (λ i. pair) i (n - i) s d ≡ then more (λ l x. ok (q ∷ l) x) = many-go (λ i. pair) s i n d e q less g in
      let next : Skipping s n at e (i + 1) = record {
        upto = omega arith;
        inside = p.inside;
        left = left;
        end = sym (next-cons q more d e left) ∙ ap (λ (x : Parsed (List Pair)). next_position x d) (sym step) ∙ w.end;
      } in
      record { pair = rw (← p.end) p; next = rw (← p.end) next }

  pub skip-done : (d i : ℕ) → Skipping s n at d i → n ≤ i → d ≡ next_position (pairs n s at) at
  skip-done d i w h = sym (ap (λ (x : Parsed (List Pair)). next_position x d) (many-end (λ i. pair) s i n d h)) ∙ w.end

-- ---- an entry: where its second part starts, and where the count of its pairs stands
abbrev pub rows_at : List ℕ → ℕ → ℕ
rows_at s at = next_position (numbers s at) at

abbrev pub count_at : List ℕ → ℕ → ℕ
count_at s at = next_position (numbers s (rows_at s at)) (rows_at s at)

pub record EntryEnd (s : List ℕ) (at : ℕ) : Type 0 where
  pub first : reads (numbers s at) ≡ true
  pub second : reads (numbers s (rows_at s at)) ≡ true
  pub there : count_at s at + 4 ≤ length s
  pub third : reads (pairs (le32 s (count_at s at)) s (count_at s at + 4)) ≡ true
  pub end : next_position (pairs (le32 s (count_at s at)) s (count_at s at + 4)) (count_at s at + 4) ≡ next_position (entry 0 s at) at

-- and it starts with its pitch
pub record PitchFirst (s : List ℕ) (at : ℕ) (a : PitchEntry) : Type 0 where
  pub there : at + 4 ≤ length s
  pub pitch : a.f0_hz ≡ le32 s at

pub record EntryParts (s : List ℕ) (at : ℕ) (a : PitchEntry) : Type 0 where
  pub ends : EntryEnd s at
  pub starts : PitchFirst s at a

pub entry-parts : (s : List ℕ) (at e : ℕ) (a : PitchEntry) → entry 0 s at ≡ ok a e → EntryParts s at a
unfolding entry_by metadata numbers
entry-parts s at e a read =
    let h = sym (entry-by 0 s at) ∙ read in
    went (numbers s at) _ a e h λ x m₁ g₁ h₁.
    went (numbers s m₁) _ a e h₁ λ y m₂ g₂ h₂.
    went (metadata s m₂) _ a e h₂ λ ms m₃ g₃ h₃.
    went (asked (eqb (y.first * (length x.words + y.second)) (length y.words)) m₃ (refusal 6 0 0)) _ a e h₃ λ t m₄ g₄ h₄.
    went (u32 s m₂) (λ q next. pairs q s next) ms m₃ g₃ λ q m₅ g₅ h₅.
    went (u32 s at) _ x m₁ g₁ λ f n₁ k₁ j₁.
    went (u32 s n₁) _ x m₁ j₁ λ st n₂ k₂ j₂.
    went (counted s n₂) _ x m₁ j₂ λ fs n₃ k₃ j₃.
    let w = asked-ok (eqb (y.first * (length x.words + y.second)) (length y.words)) m₃ m₄ (refusal 6 0 0) t g₄ in
    let k = u32-is s m₂ q m₅ g₅ in
    let i = u32-is s at f n₁ k₁ in
    let z : m₄ ≡ e = cc in
    let o : m₃ ≡ e = w.1 ∙ z in
    let p : pairs (le32 s m₂) s (m₂ + 4) ≡ ok ms m₃ = rw (← k.value, ← k.end) h₅ in
    let u : a.f0_hz ≡ x.first = cc in
    let v : x.first ≡ f = cc in
    record {
      ends = record {
        first = rw g₁ refl;
        second = rw (g₁, g₂) refl;
        there = rw (g₁, g₂) k.there;
        third = rw (g₁, g₂, p) refl;
        end = rw (g₁, g₂, p, read) o;
      };
      starts = record { there = i.there; pitch = u ∙ v ∙ i.value };
    }

pub entry-ends : (s : List ℕ) (at : ℕ) → reads (entry 0 s at) ≡ true → EntryEnd s at
entry-ends s at h = was_read (entry 0 s at) h λ a e g. (entry-parts s at e a g).ends
