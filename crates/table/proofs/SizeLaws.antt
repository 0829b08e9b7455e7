-- Where the parts of an image end: at their start, and their size further. Assumes nothing.
use Prim.Native.Nat.{ℕ, zero, suc, ◌+◌, ◌*◌, ◌≤◌}
use mathlib.Core.Path.{◌≡◌, refl, ap, sym, ◌∙◌}
use mathlib.Core.List.{List, [], ◌∷◌}
use mathlib.Core.Bool.{true}
use native.Mathlib.Omega.{arith}
use lib.ListN.{length, drop, length-drop}
use lib.Seq.{length-take-le}
use lib.Dec.{eqb}
use Rattle.wire.specs.Parse.{refusal, Parser, ok, asked, then, many}
use Rattle.wire.specs.Cursor.{part, u32, string}
use Rattle.wire.proofs.Found.{u32-is, string-is}
use Rattle.wire.proofs.Many.{went, asked-ok, many-stand, many-length}
use Rattle.table.specs.declared.entry.EntryView.{EntryView}
use Rattle.table.specs.Table.{Pair, PitchEntry}
use Rattle.table.specs.Size.{total, pair_size, entry_size}
use Rattle.table.specs.Image.{text, counted, pair, pairs, entry}
use Rattle.table.specs.View.{word_list, pair_list, entry_at, view_of}
use Rattle.table.specs.inner.Answers.{reads}
use Rattle.table.proofs.WordLaws.{length-words, counted-are}

pub u32-end : (s : List ℕ) (at v e : ℕ) → u32 s at ≡ ok v e → e ≡ at + 4
u32-end s at v e h = (u32-is s at v e h).end

pub text-end : (s : List ℕ) (at e : ℕ) (l : List ℕ) → text s at ≡ ok l e → e ≡ at + 4 + length l
text-end s at e l h =
    went (string s at) (λ p next. ok (part s p.start p.len) next) l e h λ p m g h₁.
    let i = string-is s at m p g in
    let there : p.start + p.len ≤ length s = i.there in
    let start : p.start ≡ at + 4 = i.start in
    let end : m ≡ p.start + p.len = i.end in
    let z : m ≡ e = cc in
    let q : part s p.start p.len ≡ l = cc in
    let n : length (part s p.start p.len) ≡ p.len = length-take-le p.len (drop p.start s) (simp length-drop (omega arith)) in
    let o : length l ≡ p.len = sym (ap length q) ∙ n in
    omega arith

-- things one after the other
module _ {A : Type 0} (p : ℕ → Parser A) (size : A → ℕ) (s : List ℕ) (one : (i at e : ℕ) (a : A) → p i s at ≡ ok a e → e ≡ at + size a) where
  pub many-end : (n i at e : ℕ) (l : List A) → many p i n s at ≡ ok l e → e ≡ at + total size l
  unfolding many total
  many-end zero i at e l h =
      let q : l ≡ [] = cc in
      let z : at ≡ e = cc in
      rw q (omega arith)
  many-end (suc n) i at e l h =
      went (p i s at) (λ a next. then (many p (i + 1) n s next) (λ l e. ok (a ∷ l) e)) l e h λ a m g h₁.
      went (many p (i + 1) n s m) (λ l e. ok (a ∷ l) e) l e h₁ λ k x g₂ h₂.
      let q : l ≡ a ∷ k = cc in
      let z : x ≡ e = cc in
      let w : m ≡ at + size a = one i at m a g in
      let y : x ≡ m + total size k = many-end n (i + 1) m x k g₂ in
      rw q (omega arith)

four-each : (l : List ℕ) → total (λ n. 4) l ≡ 4 * length l
unfolding total
four-each [] = refl
four-each (a ∷ l) = let h : total (λ n. 4) l ≡ 4 * length l = four-each l in omega arith

pub counted-end : (s : List ℕ) (at e : ℕ) (l : List ℕ) → counted s at ≡ ok l e → e ≡ at + 4 + 4 * length l
unfolding counted
counted-end s at e l h =
    went (u32 s at) (λ n next. many (λ i. u32) 0 n s next) l e h λ n m g h₁.
    let w : m ≡ at + 4 = u32-end s at n m g in
    let y : e ≡ m + total (λ n. 4) l = many-end (λ i. u32) (λ n. 4) s (λ i at e a. u32-end s at a e) n 0 m e l h₁ in
    let z : total (λ n. 4) l ≡ 4 * length l = four-each l in
    omega arith

pub pair_end : (s : List ℕ) (at e : ℕ) (a : Pair) → pair s at ≡ ok a e → e ≡ at + pair_size a
unfolding pair
pair_end s at e a h =
    went (text s at) (λ k next. then (u32 s next) (λ v e. ok (record { key = k; value = v }) e)) a e h λ k m g h₁.
    went (u32 s m) (λ v e. ok (record { key = k; value = v }) e) a e h₁ λ v n g₂ h₂.
    let x : m ≡ at + 4 + length k = text-end s at m k g in
    let y : n ≡ m + 4 = u32-end s m v n g₂ in
    let z : n ≡ e = cc in
    let q : record { key = k; value = v } ≡ a = cc in
    rw (← q) (omega arith)

pub pairs_end : (n : ℕ) (s : List ℕ) (at e : ℕ) (l : List Pair) → pairs n s at ≡ ok l e → e ≡ at + total pair_size l
pairs_end n s at e l h = many-end (λ i. pair) pair_size s (λ i at e a. pair_end s at e a) n 0 at e l h

-- an entry that was read: where it ends, that its view leads back to it, and that its pairs were read where the view has them
pub record IsEntry (s : List ℕ) (at e : ℕ) (a : PitchEntry) : Type 0 where
  pub end : e ≡ at + entry_size a
  pub view : entry_at s (view_of at a) ≡ a
  pub pairs : reads (pairs (view_of at a).pairs s (view_of at a).pairs_at) ≡ true

abbrev entry_of : ℕ → ℕ → List ℕ → ℕ → ℕ → List ℕ → List Pair → PitchEntry
entry_of f st fs k j cs ms = record { f0_hz = f; stretch = st; partial_freqs = fs; k_channels = k; j_noise = j; coefficients = cs; metadata = ms }

entry-eq : (f st k j : ℕ) {fs cs fs' cs' : List ℕ} {ms ms' : List Pair} → fs ≡ fs' → cs ≡ cs' → ms ≡ ms' → entry_of f st fs k j cs ms ≡ entry_of f st fs' k j cs' ms'
entry-eq f st k j h₁ h₂ h₃ = rw (h₁, h₂, h₃) refl

pub entry-is : (i : ℕ) (s : List ℕ) (at e : ℕ) (a : PitchEntry) → entry i s at ≡ ok a e → IsEntry s at e a
unfolding entry
entry-is i s at e a h =
    went (u32 s at) _ a e h λ f m₁ g₁ h₁.
    went (u32 s m₁) _ a e h₁ λ st m₂ g₂ h₂.
    went (counted s m₂) _ a e h₂ λ fs m₃ g₃ h₃.
    went (u32 s m₃) _ a e h₃ λ k m₄ g₄ h₄.
    went (u32 s m₄) _ a e h₄ λ j m₅ g₅ h₅.
    went (counted s m₅) _ a e h₅ λ cs m₆ g₆ h₆.
    went (u32 s m₆) _ a e h₆ λ n m₇ g₇ h₇.
    went (pairs n s m₇) _ a e h₇ λ ms m₈ g₈ h₈.
    went (asked (eqb (k * (length fs + j)) (length cs)) m₈ (refusal 6 i 0)) _ a e h₈ λ x m₉ g₉ h₉.
    let w₁ : m₁ ≡ at + 4 = u32-end s at f m₁ g₁ in
    let w₂ : m₂ ≡ m₁ + 4 = u32-end s m₁ st m₂ g₂ in
    let w₃ : m₃ ≡ m₂ + 4 + 4 * length fs = counted-end s m₂ m₃ fs g₃ in
    let w₄ : m₄ ≡ m₃ + 4 = u32-end s m₃ k m₄ g₄ in
    let w₅ : m₅ ≡ m₄ + 4 = u32-end s m₄ j m₅ g₅ in
    let w₆ : m₆ ≡ m₅ + 4 + 4 * length cs = counted-end s m₅ m₆ cs g₆ in
    let w₇ : m₇ ≡ m₆ + 4 = u32-end s m₆ n m₇ g₇ in
    let w₈ : m₈ ≡ m₇ + total pair_size ms = pairs_end n s m₇ m₈ ms g₈ in
    let w = asked-ok (eqb (k * (length fs + j)) (length cs)) m₈ m₉ (refusal 6 i 0) x g₉ in
    let z : m₉ ≡ e = cc in
    let q : entry_of f st fs k j cs ms ≡ a = cc in
    let p₁ : m₂ + 4 ≡ at + 12 = omega arith in
    let p₂ : m₅ + 4 ≡ at + 24 + 4 * length fs = omega arith in
    let p₃ : m₇ ≡ at + 28 + 4 * length fs + 4 * length cs = omega arith in
    let v₁ : word_list s (at + 12) (length fs) ≡ fs = rw (← p₁) (counted-are s m₂ m₃ fs g₃) in
    let v₂ : word_list s (at + 24 + 4 * length fs) (length cs) ≡ cs = rw (← p₂) (counted-are s m₅ m₆ cs g₆) in
    let v₃ : pair_list (length ms) s (at + 28 + 4 * length fs + 4 * length cs) ≡ ms =
    rw (← p₃, many-length (λ i. pair) s n 0 m₇ m₈ ms g₈) (many-stand (λ i. pair) s n 0 m₇ m₈ ms g₈) in
    let v₄ : reads (pairs (length ms) s (at + 28 + 4 * length fs + 4 * length cs)) ≡ true = rw (← p₃, many-length (λ i. pair) s n 0 m₇ m₈ ms g₈) (ap reads g₈) in
    rw (← q) (record { end = omega arith; view = entry-eq f st k j v₁ v₂ v₃; pairs = v₄ })

pub entry-end : (i : ℕ) (s : List ℕ) (at e : ℕ) (a : PitchEntry) → entry i s at ≡ ok a e → e ≡ at + entry_size a
entry-end i s at e a h = (entry-is i s at e a h).end

-- a view whose parts stand where those of its entry do is the view of it
abbrev view : ℕ → ℕ → ℕ → ℕ → ℕ → ℕ → ℕ → ℕ → ℕ → ℕ → ℕ → EntryView
view f st m k j n q ma na qa e = record {
  f0_hz = f;
  stretch = st;
  m_partials = m;
  k_channels = k;
  j_noise = j;
  coefficients = n;
  pairs = q;
  partials_at = ma;
  coefficients_at = na;
  pairs_at = qa;
  end = e;
}

view-eq : (f st k j : ℕ) {m n q ma na qa e m' n' q' ma' na' qa' e' : ℕ} → m ≡ m' → n ≡ n' → q ≡ q' → ma ≡ ma' → na ≡ na' → qa ≡ qa' → e ≡ e'
    → view f st m k j n q ma na qa e ≡ view f st m' k j n' q' ma' na' qa' e'
view-eq f st k j h₁ h₂ h₃ h₄ h₅ h₆ h₇ = rw (h₁, h₂, h₃, h₄, h₅, h₆, h₇) refl

pub view-is : (s : List ℕ) (at : ℕ) (v : EntryView)
    → v.partials_at ≡ at + 12 → v.coefficients_at ≡ at + 24 + 4 * v.m_partials → v.pairs_at ≡ at + 28 + 4 * v.m_partials + 4 * v.coefficients
    → length (pair_list v.pairs s v.pairs_at) ≡ v.pairs → v.end ≡ at + entry_size (entry_at s v) → v ≡ view_of at (entry_at s v)
view-is s at v p₁ p₂ p₃ l z =
    let m : length (entry_at s v).partial_freqs ≡ v.m_partials = length-words s v.partials_at v.m_partials in
    let n : length (entry_at s v).coefficients ≡ v.coefficients = length-words s v.coefficients_at v.coefficients in
    view-eq v.f0_hz v.stretch v.k_channels v.j_noise (sym m) (sym n) (sym l) p₁ (omega arith) (omega arith) z

-- so a view that was read with its entry has pairs that were read
pub view-reads : (i : ℕ) (s : List ℕ) (at e : ℕ) (v : EntryView) → entry i s at ≡ ok (entry_at s v) e → v ≡ view_of at (entry_at s v)
    → reads (pairs v.pairs s v.pairs_at) ≡ true
view-reads i s at e v h p =
    ap (λ (w : EntryView). reads (pairs w.pairs s w.pairs_at)) p ∙ (entry-is i s at e (entry_at s v) h).pairs
