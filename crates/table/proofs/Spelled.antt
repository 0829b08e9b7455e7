-- What is read is written again: the bytes that a parser went over are those that its value is written as. Assumes nothing.
use Prim.Native.Nat.{ℕ, zero, suc, ◌+◌, ◌-◌, ◌*◌, ◌/◌, ◌%◌, ◌≤◌, ◌<◌}
use mathlib.Core.Path.{◌≡◌, refl, ap, sym, ◌∙◌}
use mathlib.Core.List.{List, [], ◌∷◌, ◌++◌}
use mathlib.Core.Bool.{Bool, true, false, cond}
use native.Mathlib.Omega.{arith}
use native.Mathlib.Numerals.{add-one, add-two, add-three}
use lib.ListN.{length, get_or, take, drop, length-drop}
use lib.Seq.{drop-cons, drop-drop, take-add, length-take-le}
use lib.Dec.{eqb, leb}
use borrow.Author.Tests.{eqb-true, leb-true}
use Rattle.wire.specs.Parse.{refusal, Parser, ok, asked, then, many}
use Rattle.wire.specs.Cursor.{part, le16, le32, take_at, u16, u32, string}
use Rattle.wire.proofs.Found.{u32-is, u16-is, take-is, string-is}
use Rattle.wire.proofs.Many.{went, asked-ok, many-length}
use Rattle.table.specs.Table.{Pair, PitchEntry, CoeffTable, same}
use Rattle.table.specs.Image.{text, counted, pair, pairs, entry, entries, magic, Header, header}
use Rattle.table.specs.Span.{Verdict, agreed, broken, consistent, ruled}
use Rattle.table.specs.Decode.{decode}
use Rattle.table.specs.Encode.{put_u32, put_all, put_str, put_counted, put_pair, put_entry, encode}

-- the bytes from one position to another
abbrev pub piece : List ℕ → ℕ → ℕ → List ℕ
piece s at e = take (e - at) (drop at s)

pub record Spelled (s : List ℕ) (at e : ℕ) (l : List ℕ) : Type 0 where
  pub order : at ≤ e
  pub inside : at ≤ length s → e ≤ length s
  pub bytes : l ≡ piece s at e

-- one piece after the other
pub joined : {s : List ℕ} {a m e : ℕ} {x y : List ℕ} → Spelled s a m x → Spelled s m e y → Spelled s a e (x ++ y)
joined {s} {a} {m} {e} {x} {y} p q =
    let o : a ≤ m = p.order in
    let r : m ≤ e = q.order in
    let k : (m - a) + (e - m) ≡ e - a = omega arith in
    let j : a + (m - a) ≡ m = omega arith in
    record {
      order = omega arith;
      inside = λ h. q.inside (p.inside h);
      bytes = rw (p.bytes, q.bytes, ← k, take-add (m - a) (e - m) (drop a s), drop-drop (m - a) a s, j) refl;
    }

spelled-nothing : (s : List ℕ) (a e : ℕ) → a ≡ e → Spelled s a e []
spelled-nothing s a e h = let k : e - a ≡ 0 = omega arith in record { order = omega arith; inside = λ g. omega arith; bytes = rw k refl }

digits_of : (a b c d : ℕ) → a < 256 → b < 256 → c < 256 → d < 256 → put_u32 (a + 256 * b + 65536 * c + 16777216 * d) ≡ a ∷ b ∷ c ∷ d ∷ []
digits_of a b c d ha hb hc hd =
    let x : ℕ = a + 256 * b + 65536 * c + 16777216 * d in
    let p : x % 256 ≡ a = omega arith in
    let q₁ : x / 256 ≡ b + 256 * c + 65536 * d = omega arith in
    let q₂ : x / 65536 ≡ c + 256 * d = omega arith in
    let q₃ : x / 16777216 ≡ d = omega arith in
    let r₁ : (b + 256 * c + 65536 * d) % 256 ≡ b = omega arith in
    let r₂ : (c + 256 * d) % 256 ≡ c = omega arith in
    let r₃ : d % 256 ≡ d = omega arith in
    rw (p, q₁, q₂, q₃, r₁, r₂, r₃) refl

module _ (s : List ℕ) (byte : (i : ℕ) → get_or s i 0 < 256) where
  four : (at : ℕ) → at + 4 ≤ length s → piece s at (at + 4) ≡ get_or s at 0 ∷ get_or s (at + 1) 0 ∷ get_or s (at + 2) 0 ∷ get_or s (at + 3) 0 ∷ []
  four at h =
      let k : at + 4 - at ≡ 4 = omega arith in
      rw (k, drop-cons s at 0 (omega arith), drop-cons s (suc at) 0 (omega arith), drop-cons s (suc (suc at)) 0 (omega arith), drop-cons s (suc (suc (suc at))) 0 (omega arith), add-one, add-two, add-three) refl

  digits : (at : ℕ) → put_u32 (le32 s at) ≡ get_or s at 0 ∷ get_or s (at + 1) 0 ∷ get_or s (at + 2) 0 ∷ get_or s (at + 3) 0 ∷ []
  digits at = digits_of (get_or s at 0) (get_or s (at + 1) 0) (get_or s (at + 2) 0) (get_or s (at + 3) 0) (byte at) (byte (at + 1)) (byte (at + 2)) (byte (at + 3))

  spelled-u32 : (at v e : ℕ) → u32 s at ≡ ok v e → Spelled s at e (put_u32 v)
  spelled-u32 at v e h =
      let i = u32-is s at v e h in
      let there : at + 4 ≤ length s = i.there in
      let p : e ≡ at + 4 = i.end in
      record { order = omega arith; inside = λ g. omega arith; bytes = rw (i.end, i.value) (digits at ∙ sym (four at there)) }

  pub spelled-text : (at e : ℕ) (l : List ℕ) → text s at ≡ ok l e → Spelled s at e (put_str l)
  spelled-text at e l h =
      went (string s at) (λ p next. ok (part s p.start p.len) next) l e h λ p m g h₁.
      let i = string-is s at m p g in
      let there : p.start + p.len ≤ length s = i.there in
      let start : p.start ≡ at + 4 = i.start in
      let end : m ≡ p.start + p.len = i.end in
      let z : m ≡ e = cc in
      let q : l ≡ part s p.start p.len = cc in
      let n : length (part s p.start p.len) ≡ p.len = length-take-le p.len (drop p.start s) (simp length-drop (omega arith)) in
      let y : length l ≡ p.len = ap length q ∙ n in
      let f : Spelled s at (at + 4) (put_u32 p.len) = record { order = omega arith; inside = λ g. omega arith; bytes = rw i.size (digits at ∙ sym (four at (omega arith))) } in
      let k : e - (at + 4) ≡ p.len = omega arith in
      let b : Spelled s (at + 4) e l = record { order = omega arith; inside = λ g. omega arith; bytes = rw (k, q, start) refl } in
      rw y (joined f b)

  -- things one after the other
  module _ {A : Type 0} (p : ℕ → Parser A) (f : A → List ℕ) (one : (i at e : ℕ) (a : A) → p i s at ≡ ok a e → Spelled s at e (f a)) where
    spelled-many : (n i at e : ℕ) (l : List A) → many p i n s at ≡ ok l e → Spelled s at e (put_all f l)
    unfolding many put_all
    spelled-many zero i at e l h =
        let q : l ≡ [] = cc in
        let k : at ≡ e = cc in
        rw q (spelled-nothing s at e k)
    spelled-many (suc n) i at e l h =
        went (p i s at) (λ a next. then (many p (i + 1) n s next) (λ l e. ok (a ∷ l) e)) l e h λ a m g h₁.
        went (many p (i + 1) n s m) (λ l e. ok (a ∷ l) e) l e h₁ λ k x g₂ h₂.
        let z : x ≡ e = cc in
        let q : a ∷ k ≡ l = cc in
        rw (← q, ← z) (joined (one i at m a g) (spelled-many n (i + 1) m x k g₂))

  spelled-counted : (at e : ℕ) (l : List ℕ) → counted s at ≡ ok l e → Spelled s at e (put_counted l)
  unfolding counted
  spelled-counted at e l h =
      went (u32 s at) (λ n next. many (λ i. u32) 0 n s next) l e h λ n m g h₁.
      let v = spelled-many (λ i. u32) put_u32 (λ i at e a. spelled-u32 at a e) n 0 m e l h₁ in
      rw (many-length (λ i. u32) s n 0 m e l h₁) (joined (spelled-u32 at n m g) v)

  spelled-pair : (at e : ℕ) (a : Pair) → pair s at ≡ ok a e → Spelled s at e (put_pair a)
  unfolding pair put_pair
  spelled-pair at e a h =
      went (text s at) (λ k next. then (u32 s next) (λ v e. ok (record { key = k; value = v }) e)) a e h λ k m g h₁.
      went (u32 s m) (λ v e. ok (record { key = k; value = v }) e) a e h₁ λ v n g₂ h₂.
      let z : n ≡ e = cc in
      let q : record { key = k; value = v } ≡ a = cc in
      rw (← q, ← z) (joined (spelled-text at m k g) (spelled-u32 m v n g₂))

  pub spelled-entry : (i at e : ℕ) (a : PitchEntry) → entry i s at ≡ ok a e → Spelled s at e (put_entry a)
  unfolding entry put_entry
  spelled-entry i at e a h =
      went (u32 s at) _ a e h λ f m₁ g₁ h₁.
      went (u32 s m₁) _ a e h₁ λ st m₂ g₂ h₂.
      went (counted s m₂) _ a e h₂ λ fs m₃ g₃ h₃.
      went (u32 s m₃) _ a e h₃ λ k m₄ g₄ h₄.
      went (u32 s m₄) _ a e h₄ λ j m₅ g₅ h₅.
      went (counted s m₅) _ a e h₅ λ cs m₆ g₆ h₆.
      went (u32 s m₆) _ a e h₆ λ n m₇ g₇ h₇.
      went (pairs n s m₇) _ a e h₇ λ ms m₈ g₈ h₈.
      went (asked (eqb (k * (length fs + j)) (length cs)) m₈ (refusal 6 i 0)) _ a e h₈ λ x m₉ g₉ h₉.
      let v = spelled-many (λ i. pair) put_pair (λ i at e a. spelled-pair at e a) n 0 m₇ m₈ ms g₈ in
      let w = asked-ok (eqb (k * (length fs + j)) (length cs)) m₈ m₉ (refusal 6 i 0) x g₉ in
      let z : m₈ ≡ e = w.1 ∙ cc in
      let q : record { f0_hz = f; stretch = st; partial_freqs = fs; k_channels = k; j_noise = j; coefficients = cs; metadata = ms } ≡ a = cc in
      rw (← q, ← z, many-length (λ i. pair) s n 0 m₇ m₈ ms g₈)
      (joined (spelled-u32 at f m₁ g₁) (joined (spelled-u32 m₁ st m₂ g₂) (joined (spelled-counted m₂ m₃ fs g₃) (joined (spelled-u32 m₃ k m₄ g₄)
      (joined (spelled-u32 m₄ j m₅ g₅) (joined (spelled-counted m₅ m₆ cs g₆) (joined (spelled-u32 m₆ n m₇ g₇) v)))))))

pub same-eq : (xs ys : List ℕ) → same xs ys ≡ true → xs ≡ ys
unfolding same
same-eq [] [] h = refl
same-eq [] (b ∷ ys) h = let z : ◌≡◌ {A = ℕ} 0 1 = cc in absurd (omega arith)
same-eq (a ∷ xs) [] h = let z : ◌≡◌ {A = ℕ} 0 1 = cc in absurd (omega arith)
same-eq (a ∷ xs) (b ∷ ys) h = go (eqb a b) refl h (same-eq xs ys)
  where
    go : (t : Bool) → eqb a b ≡ t → cond t (same xs ys) false ≡ true → (same xs ys ≡ true → xs ≡ ys) → a ∷ xs ≡ b ∷ ys
    go true e k ih = let p : a ≡ b = eqb-true a b e in let q : xs ≡ ys = ih k in cc
    go false e k ih = let z : ◌≡◌ {A = ℕ} 0 1 = cc in absurd (omega arith)

-- the parts of a header that was read
pub record HeaderParts (s : List ℕ) (d : Header) (e m : ℕ) : Type 0 where
  pub mark : magic ≡ take 4 s
  pub version : d.version ≡ le16 s 4
  pub known : d.version ≤ 1
  pub room : 6 ≤ length s
  pub name : text s 6 ≡ ok d.name m
  pub count : u32 s m ≡ ok d.count e

pub header-parts : {G : Type 0} (s : List ℕ) (d : Header) (e : ℕ) → header s 0 ≡ ok d e → ((m : ℕ) → HeaderParts s d e m → G) → G
unfolding header
header-parts s d e h k =
    went (take_at 4 s 0) _ d e h λ p m₁ g₁ h₁.
    went (asked (same (part s p 4) magic) m₁ (refusal 3 0 0)) _ d e h₁ λ x m₂ g₂ h₂.
    went (u16 s m₂) _ d e h₂ λ v m₃ g₃ h₃.
    went (asked (leb v 1) m₃ (refusal 4 v 0)) _ d e h₃ λ y m₄ g₄ h₄.
    went (text s m₄) _ d e h₄ λ t m₅ g₅ h₅.
    went (u32 s m₅) _ d e h₅ λ n m₆ g₆ h₆.
    let r = take-is s 0 4 p m₁ g₁ in
    let a = asked-ok (same (part s p 4) magic) m₁ m₂ (refusal 3 0 0) x g₂ in
    let f = u16-is s m₂ v m₃ g₃ in
    let b = asked-ok (leb v 1) m₃ m₄ (refusal 4 v 0) y g₄ in
    let four : m₂ ≡ 4 = omega arith in
    let six : m₄ ≡ 6 = omega arith in
    let q : record { version = v; name = t; count = n } ≡ d = cc in
    let z : m₆ ≡ e = cc in
    let o : v ≡ le16 s 4 = f.value ∙ ap (le16 s) four in
    let u : same (part s 0 4) magic ≡ true = rw r.start at a.0 in
    k m₅ (record {
      mark = sym (same-eq (part s 0 4) magic u);
      version = rw (← q) o;
      known = rw (← q) (leb-true v 1 b.0);
      room = omega arith;
      name = rw (← q, ← six) g₅;
      count = rw (← q, ← z) g₆;
    })

pub ruled-ok : (v : Verdict) (at e : ℕ) (x : Bool) → ruled v at ≡ ok x e → at ≡ e
ruled-ok agreed at e x h = cc
ruled-ok (broken r) at e x h = let z : ◌≡◌ {A = ℕ} 0 1 = cc in absurd (omega arith)

-- the parts of an image that was accepted
pub record TableParts (s : List ℕ) (t : CoeffTable) (e : ℕ) (d : Header) (at : ℕ) (es : List PitchEntry) : Type 0 where
  pub short : length s ≤ 65536
  pub head : header s 0 ≡ ok d at
  pub rest : entries d.count s at ≡ ok es e
  pub ruling : ruled (consistent es) e ≡ ok true e
  pub whole : t ≡ record { version = d.version; name = d.name; entries = es }

ruled-true : (v : Verdict) (at e : ℕ) (x : Bool) → ruled v at ≡ ok x e → ruled v e ≡ ok true e
ruled-true agreed at e x h = refl
ruled-true (broken r) at e x h = let z : ◌≡◌ {A = ℕ} 0 1 = cc in absurd (omega arith)

pub table-parts : {G : Type 0} (s : List ℕ) (t : CoeffTable) (e : ℕ) → decode s ≡ ok t e
    → ((d : Header) (at : ℕ) (es : List PitchEntry) → TableParts s t e d at es → G) → G
unfolding decode
table-parts s t e h k =
    went (asked (leb (length s) 65536) 0 (refusal 1 0 0)) _ t e h λ x m₁ g₁ h₁.
    let a = asked-ok (leb (length s) 65536) 0 m₁ (refusal 1 0 0) x g₁ in
    went (header s m₁) _ t e h₁ λ d m₂ g₂ h₂.
    went (entries d.count s m₂) _ t e h₂ λ es m₃ g₃ h₃.
    went (ruled (consistent es) m₃) _ t e h₃ λ y m₄ g₄ h₄.
    let z : m₄ ≡ e = cc in
    let w : m₃ ≡ e = ruled-ok (consistent es) m₃ m₄ y g₄ ∙ z in
    k d m₂ es (record {
      short = leb-true _ _ a.0;
      head = rw a.1 g₂;
      rest = rw (← w) g₃;
      ruling = rw (← z) (ruled-true (consistent es) m₃ m₄ y g₄);
      whole = cc;
    })

-- the image again: its mark, version 1, and its bytes from the name to the end
pub record Again (s : List ℕ) (t : CoeffTable) (e : ℕ) : Type 0 where
  pub some : 6 ≤ e
  pub inside : e ≤ length s
  pub bytes : encode t ≡ take 4 s ++ (1 ∷ 0 ∷ piece s 6 e)

pub read_again : (s : List ℕ) → ((i : ℕ) → get_or s i 0 < 256) → (t : CoeffTable) (e : ℕ) → decode s ≡ ok t e → Again s t e
unfolding encode
read_again s byte t e h =
    table-parts s t e h λ d at es w.
    header-parts s d at w.head λ m p.
    let v = spelled-many s byte entry put_entry (spelled-entry s byte) d.count 0 at e es w.rest in
    let b = joined (spelled-text s byte 6 m d.name p.name) (joined (spelled-u32 s byte m d.count at p.count) v) in
    let o : 6 ≤ e = b.order in
    let i : e ≤ length s = b.inside p.room in
    record {
      some = o;
      inside = i;
      bytes = rw (w.whole, many-length entry s d.count 0 at e es w.rest, b.bytes) (ap (λ (l : List ℕ). l ++ (1 ∷ 0 ∷ piece s 6 e)) p.mark);
    }
