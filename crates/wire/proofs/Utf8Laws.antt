-- The definition of UTF-8 by the rows of RFC 3629 says the same as the library's `IsUtf8`: that the bytes are those of some characters.
-- Assumes nothing.
use Prim.Native.Nat.{ℕ, zero, suc, ◌+◌, ◌-◌, ◌*◌, ◌/◌, ◌≤◌, ◌<◌}
use mathlib.Core.Path.{◌≡◌, refl, sym, ap, ◌∙◌}
use mathlib.Core.Logic.{◌⊎◌, inl, inr, ⊎_elim}
use mathlib.Core.List.{List, [], ◌∷◌, ◌++◌}
use mathlib.Core.Bool.{Bool, true, false, ◌&&◌, cond}
use native.Mathlib.Omega.{arith}
use lib.ListN.{length}
use lib.Dec.{leb}
use lib.Utf8.{next, scalars, encode, encodes, scalar_cases}
use borrow.Author.Tests.{le-leb, lt-leb, leb-true}
use Rattle.std.specs.Prelude.{Result, Ok, Err, is_ok, MatchResult}
use Rattle.std.specs.Str.{IsUtf8}
use Rattle.std.proofs.lemmas.Str.{IsUtf8-nil, IsUtf8-append}
use Rattle.std.proofs.str.Laws.{Scalar, order, one, two, three, four, both}
use Rattle.std.proofs.str.Valid.{of_one, of_two, of_three, of_four}
use Rattle.wire.specs.Utf8.{Octets, octet_range, utf8_tail, chars, follow, bad, lead, octet, onto, octets, utf8}

-- ---- the first octet, by the rows
lead_one : (b : ℕ) → b < 128 → lead chars b ≡ follow []
unfolding lead
lead_one b h = simp (le-leb b 0x7f (omega arith), le-leb 0x0 b (omega arith))

lead_none : (b : ℕ) → 128 ≤ b → b < 194 → lead chars b ≡ bad
unfolding lead
lead_none b l h =
    simp (lt-leb b 0x7f (omega arith), lt-leb 0xc2 b (omega arith), lt-leb 0xe0 b (omega arith), lt-leb 0xe1 b (omega arith), lt-leb 0xed b (omega arith), lt-leb 0xee b (omega arith), lt-leb 0xf0 b (omega arith), lt-leb 0xf1 b (omega arith), lt-leb 0xf4 b (omega arith), le-leb b 0xdf (omega arith), le-leb b 0xe0 (omega arith), le-leb b 0xec (omega arith), le-leb b 0xed (omega arith), le-leb b 0xef (omega arith), le-leb b 0xf0 (omega arith), le-leb b 0xf3 (omega arith), le-leb b 0xf4 (omega arith))

lead_two : (b : ℕ) → 194 ≤ b → b < 224 → lead chars b ≡ follow (utf8_tail ∷ [])
unfolding lead
lead_two b l h = simp (lt-leb b 0x7f (omega arith), le-leb b 0xdf (omega arith), le-leb 0xc2 b (omega arith))

lead_three : (b : ℕ) → 225 ≤ b → b < 237 → lead chars b ≡ follow (utf8_tail ∷ utf8_tail ∷ [])
unfolding lead
lead_three b l h =
    simp (lt-leb b 0x7f (omega arith), lt-leb b 0xdf (omega arith), lt-leb b 0xe0 (omega arith), le-leb b 0xec (omega arith), le-leb 0xe1 b (omega arith))

lead_three_high : (b : ℕ) → 238 ≤ b → b < 240 → lead chars b ≡ follow (utf8_tail ∷ utf8_tail ∷ [])
unfolding lead
lead_three_high b l h =
    simp (lt-leb b 0x7f (omega arith), lt-leb b 0xdf (omega arith), lt-leb b 0xe0 (omega arith), lt-leb b 0xec (omega arith), lt-leb b 0xed (omega arith), le-leb b 0xef (omega arith), le-leb 0xee b (omega arith))

lead_four : (b : ℕ) → 241 ≤ b → b < 244 → lead chars b ≡ follow (utf8_tail ∷ utf8_tail ∷ utf8_tail ∷ [])
unfolding lead
lead_four b l h =
    simp (lt-leb b 0x7f (omega arith), lt-leb b 0xdf (omega arith), lt-leb b 0xe0 (omega arith), lt-leb b 0xec (omega arith), lt-leb b 0xed (omega arith), lt-leb b 0xef (omega arith), lt-leb b 0xf0 (omega arith), le-leb b 0xf3 (omega arith), le-leb 0xf1 b (omega arith))

lead_above : (b : ℕ) → 245 ≤ b → lead chars b ≡ bad
unfolding lead
lead_above b l =
    simp (lt-leb b 0x7f (omega arith), lt-leb b 0xdf (omega arith), lt-leb b 0xe0 (omega arith), lt-leb b 0xec (omega arith), lt-leb b 0xed (omega arith), lt-leb b 0xef (omega arith), lt-leb b 0xf0 (omega arith), lt-leb b 0xf3 (omega arith), lt-leb b 0xf4 (omega arith))

lead_224 : (b : ℕ) → b ≡ 224 → lead chars b ≡ follow (octet_range 0xA0 0xBF ∷ utf8_tail ∷ [])
unfolding lead
lead_224 b e = rw e refl

lead_237 : (b : ℕ) → b ≡ 237 → lead chars b ≡ follow (octet_range 0x80 0x9F ∷ utf8_tail ∷ [])
unfolding lead
lead_237 b e = rw e refl

lead_240 : (b : ℕ) → b ≡ 240 → lead chars b ≡ follow (octet_range 0x90 0xBF ∷ utf8_tail ∷ utf8_tail ∷ [])
unfolding lead
lead_240 b e = rw e refl

lead_244 : (b : ℕ) → b ≡ 244 → lead chars b ≡ follow (octet_range 0x80 0x8F ∷ utf8_tail ∷ utf8_tail ∷ [])
unfolding lead
lead_244 b e = rw e refl

-- ---- an octet
begins : (b : ℕ) (s : List ℕ) (rest : List Octets) → lead chars b ≡ follow rest → octets (b ∷ s) [] ≡ octets s rest
unfolding octets octet
begins b s rest e = rw e refl

begins_none : (b : ℕ) (s : List ℕ) → lead chars b ≡ bad → octets (b ∷ s) [] ≡ false
unfolding octets octet
begins_none b s e = rw e refl

goes : (r : Octets) (rest : List Octets) (b : ℕ) (s : List ℕ) → r.low ≤ b → b ≤ r.high → octets (b ∷ s) (r ∷ rest) ≡ octets s rest
unfolding octets octet
goes r rest b s l h = rw (le-leb b r.high h, le-leb r.low b l) refl

-- an octet that passed, and those after it
pub record Went (r : Octets) (rest : List Octets) (b : ℕ) (s : List ℕ) : Type 0 where
  pub low : r.low ≤ b
  pub high : b ≤ r.high
  pub after : octets s rest ≡ true

went : (r : Octets) (rest : List Octets) (b : ℕ) (s : List ℕ) → octets (b ∷ s) (r ∷ rest) ≡ true → Went r rest b s
unfolding octets octet
went r rest b s h = go (leb b r.high) (leb r.low b) refl refl h
  where
    go : (x y : Bool) → leb b r.high ≡ x → leb r.low b ≡ y → onto (cond (x && y) (follow rest) bad) (λ n. octets s n) ≡ true → Went r rest b s
    go true true e f k = record { low = leb-true _ _ f; high = leb-true _ _ e; after = k }
    go true false e f k = let z : ◌≡◌ {A = Bool} false true = k in cc
    go false y e f k = let z : ◌≡◌ {A = Bool} false true = k in cc

ended : {G : Type 0} (r : Octets) (rest : List Octets) → octets [] (r ∷ rest) ≡ true → G
unfolding octets
ended r rest h = cc

-- ---- each character's bytes pass
two-pass : (a b : ℕ) (r : List ℕ) → 194 ≤ a → a < 224 → 128 ≤ b → b < 192 → octets (a ∷ b ∷ r) [] ≡ octets r []
two-pass a b r l h p q =
    begins a (b ∷ r) (utf8_tail ∷ []) (lead_two a l h)
    ∙ goes utf8_tail [] b r (omega arith) (omega arith)

module _ (a b d : ℕ) (r : List ℕ) (p : 128 ≤ b) (q : b < 192) (u : 128 ≤ d) (v : d < 192) where
  three-by : (first : Octets) → lead chars a ≡ follow (first ∷ utf8_tail ∷ []) → first.low ≤ b → b ≤ first.high → octets (a ∷ b ∷ d ∷ r) [] ≡ octets r []
  three-by first e l h =
      begins a (b ∷ d ∷ r) (first ∷ utf8_tail ∷ []) e
      ∙ goes first (utf8_tail ∷ []) b (d ∷ r) l h
      ∙ goes utf8_tail [] d r (omega arith) (omega arith)

  three-pass : 224 ≤ a → a < 240 → (a ≡ 224 → 160 ≤ b) → (a ≡ 237 → b < 160) → octets (a ∷ b ∷ d ∷ r) [] ≡ octets r []
  three-pass l h f g = ⊎_elim low (λ l₁. ⊎_elim (middle l₁) (λ l₂. ⊎_elim (surrogates l₂) high (order a 238)) (order a 237)) (order a 225)
    where
      low : a < 225 → octets (a ∷ b ∷ d ∷ r) [] ≡ octets r []
      low k = let e : a ≡ 224 = omega arith in three-by (octet_range 0xA0 0xBF) (lead_224 a e) (f e) (omega arith)

      middle : 225 ≤ a → a < 237 → octets (a ∷ b ∷ d ∷ r) [] ≡ octets r []
      middle m k = three-by utf8_tail (lead_three a m k) (omega arith) (omega arith)

      surrogates : 237 ≤ a → a < 238 → octets (a ∷ b ∷ d ∷ r) [] ≡ octets r []
      surrogates m k =
          let e : a ≡ 237 = omega arith in
          let w = g e in
          three-by (octet_range 0x80 0x9F) (lead_237 a e) (omega arith) (omega arith)

      high : 238 ≤ a → octets (a ∷ b ∷ d ∷ r) [] ≡ octets r []
      high m = three-by utf8_tail (lead_three_high a m h) (omega arith) (omega arith)

  module _ (x : ℕ) (w : 128 ≤ x) (z : x < 192) where
    four-by : (first : Octets) → lead chars a ≡ follow (first ∷ utf8_tail ∷ utf8_tail ∷ []) → first.low ≤ b → b ≤ first.high → octets (a ∷ b ∷ d ∷ x ∷ r) [] ≡ octets r []
    four-by first e l h =
        begins a (b ∷ d ∷ x ∷ r) (first ∷ utf8_tail ∷ utf8_tail ∷ []) e
        ∙ goes first (utf8_tail ∷ utf8_tail ∷ []) b (d ∷ x ∷ r) l h
        ∙ goes utf8_tail (utf8_tail ∷ []) d (x ∷ r) (omega arith) (omega arith)
        ∙ goes utf8_tail [] x r (omega arith) (omega arith)

    four-pass : 240 ≤ a → a < 245 → (a ≡ 240 → 144 ≤ b) → (a ≡ 244 → b < 144) → octets (a ∷ b ∷ d ∷ x ∷ r) [] ≡ octets r []
    four-pass l h f g = ⊎_elim low (λ l₁. ⊎_elim (middle l₁) high (order a 244)) (order a 241)
      where
        low : a < 241 → octets (a ∷ b ∷ d ∷ x ∷ r) [] ≡ octets r []
        low k = let e : a ≡ 240 = omega arith in four-by (octet_range 0x90 0xBF) (lead_240 a e) (f e) (omega arith)

        middle : 241 ≤ a → a < 244 → octets (a ∷ b ∷ d ∷ x ∷ r) [] ≡ octets r []
        middle m k = four-by utf8_tail (lead_four a m k) (omega arith) (omega arith)

        high : 244 ≤ a → octets (a ∷ b ∷ d ∷ x ∷ r) [] ≡ octets r []
        high m =
            let e : a ≡ 244 = omega arith in
            let w = g e in
            four-by (octet_range 0x80 0x8F) (lead_244 a e) (omega arith) (omega arith)

char-passes : (c : ℕ) (r : List ℕ) → Scalar c → octets (encode c ++ r) [] ≡ octets r []
char-passes c r s = ⊎_elim first (λ l. ⊎_elim (second l) (λ m. ⊎_elim (third m) fourth (order c 65536)) (order c 2048)) (order c 128)
  where
    first : c < 128 → octets (encode c ++ r) [] ≡ octets r []
    first h = rw (one c h) (begins c r [] (lead_one c h))

    second : 128 ≤ c → c < 2048 → octets (encode c ++ r) [] ≡ octets r []
    second l h = rw (two c l h) (two-pass (192 + c / 64) (next c) r (omega arith) (omega arith) (omega arith) (omega arith))

    third : 2048 ≤ c → c < 65536 → octets (encode c ++ r) [] ≡ octets r []
    third l h =
        rw (three c l h)
        (three-pass (224 + c / 4096) (next (c / 64)) (next c) r (omega arith) (omega arith) (omega arith) (omega arith) (omega arith) (omega arith) (λ e. omega arith) (λ e. ⊎_elim (λ k. omega arith) (λ k. absurd (omega arith)) s))

    fourth : 65536 ≤ c → octets (encode c ++ r) [] ≡ octets r []
    fourth l =
        let top : c < 1114112 = ⊎_elim (λ k. omega arith) (λ k. k.1) s in
        rw (four c l)
        (four-pass (240 + c / 262144) (next (c / 4096)) (next (c / 64)) r (omega arith) (omega arith) (omega arith) (omega arith) (next c) (omega arith) (omega arith) (omega arith) (omega arith) (λ e. omega arith) (λ e. omega arith))

chars-pass : (cs : List ℕ) → scalars cs ≡ true → utf8 (encodes cs) ≡ true
unfolding octets
chars-pass [] h = refl
chars-pass (c ∷ cs) h =
    let k = both _ _ h in
    char-passes c (encodes cs) (scalar_cases c k.0) ∙ chars-pass cs k.1

pub utf8-from_IsUtf8 : (s : List ℕ) → IsUtf8 s → utf8 s ≡ true
utf8-from_IsUtf8 s u = ap utf8 (sym u.1.1) ∙ chars-pass u.0 u.1.0

-- ---- and bytes that pass are characters'
one_is : (a : ℕ) → a < 128 → IsUtf8 (a ∷ [])
one_is a h = of_one (a ∷ []) 0 (omega arith) h

two_is : (a b : ℕ) → 194 ≤ a → a < 224 → 128 ≤ b → b < 192 → IsUtf8 (a ∷ b ∷ [])
two_is a b l h p q = of_two (a ∷ b ∷ []) 0 (omega arith) (l, h) (p, q)

three_is : (a b d : ℕ) → 224 ≤ a → a < 240 → 128 ≤ b → b < 192 → 128 ≤ d → d < 192 → (a ≡ 224 → 160 ≤ b) → (a ≡ 237 → b < 160) → IsUtf8 (a ∷ b ∷ d ∷ [])
three_is a b d l h p q u v f g = of_three (a ∷ b ∷ d ∷ []) 0 (omega arith) (l, h) (p, q) (u, v) least scalar
  where
    least : 2048 ≤ (a - 224) * 4096 + (b - 128) * 64 + (d - 128)
    least = ⊎_elim (λ k. let e : a ≡ 224 = omega arith in let w = f e in omega arith) (λ k. omega arith) (order a 225)

    scalar : ((a - 224) * 4096 + (b - 128) * 64 + (d - 128) < 55296) ⊎ (57344 ≤ (a - 224) * 4096 + (b - 128) * 64 + (d - 128))
    scalar = ⊎_elim (λ k. inl (omega arith)) (λ j. ⊎_elim (λ k. let e : a ≡ 237 = omega arith in let w = g e in inl (omega arith)) (λ k. inr (omega arith)) (order a 238)) (order a 237)

four_is : (a b d x : ℕ) → 240 ≤ a → a < 245 → 128 ≤ b → b < 192 → 128 ≤ d → d < 192 → 128 ≤ x → x < 192 → (a ≡ 240 → 144 ≤ b) → (a ≡ 244 → b < 144) → IsUtf8 (a ∷ b ∷ d ∷ x ∷ [])
four_is a b d x l h p q u v w z f g = of_four (a ∷ b ∷ d ∷ x ∷ []) 0 (omega arith) l (p, q) (u, v) (w, z) (least, most)
  where
    least : 16 ≤ (a - 240) * 64 + (b - 128)
    least = ⊎_elim (λ k. let e : a ≡ 240 = omega arith in let w = f e in omega arith) (λ k. omega arith) (order a 241)

    most : (a - 240) * 64 + (b - 128) < 272
    most = ⊎_elim (λ k. omega arith) (λ k. let e : a ≡ 244 = omega arith in let w = g e in omega arith) (order a 244)

-- the octets after a first one, and what follows the character
module _ (n : ℕ) (valid : (s : List ℕ) → length s ≤ n → octets s [] ≡ true → IsUtf8 s) (a : ℕ) where
  after_two : 194 ≤ a → a < 224 → (s : List ℕ) → length s ≤ n → octets s (utf8_tail ∷ []) ≡ true → IsUtf8 (a ∷ s)
  after_two l h [] k e = ended utf8_tail [] e
  after_two l h (b ∷ s) k e =
      let w = went utf8_tail [] b s e in
      IsUtf8-append (a ∷ b ∷ []) s (two_is a b l h (omega arith) (omega arith)) (valid s (omega arith) w.after)

  module _ (first : Octets) (p : 128 ≤ first.low) (q : first.high < 192) where
    after_three : 224 ≤ a → a < 240 → (a ≡ 224 → 160 ≤ first.low) → (a ≡ 237 → first.high < 160)
        → (s : List ℕ) → length s ≤ n → octets s (first ∷ utf8_tail ∷ []) ≡ true → IsUtf8 (a ∷ s)
    after_three l h f g [] k e = ended first (utf8_tail ∷ []) e
    after_three l h f g (b ∷ []) k e = let w = went first (utf8_tail ∷ []) b [] e in ended utf8_tail [] w.after
    after_three l h f g (b ∷ d ∷ s) k e =
        let w = went first (utf8_tail ∷ []) b (d ∷ s) e in
        let x = went utf8_tail [] d s w.after in
        let low = w.low in
        let high = w.high in
        IsUtf8-append (a ∷ b ∷ d ∷ []) s (three_is a b d l h (omega arith) (omega arith) (omega arith) (omega arith) (λ i. let y = f i in omega arith) (λ i. let y = g i in omega arith)) (valid s (omega arith) x.after)

    after_four : 240 ≤ a → a < 245 → (a ≡ 240 → 144 ≤ first.low) → (a ≡ 244 → first.high < 144)
        → (s : List ℕ) → length s ≤ n → octets s (first ∷ utf8_tail ∷ utf8_tail ∷ []) ≡ true → IsUtf8 (a ∷ s)
    after_four l h f g [] k e = ended first (utf8_tail ∷ utf8_tail ∷ []) e
    after_four l h f g (b ∷ []) k e = let w = went first (utf8_tail ∷ utf8_tail ∷ []) b [] e in ended utf8_tail (utf8_tail ∷ []) w.after
    after_four l h f g (b ∷ d ∷ []) k e =
        let w = went first (utf8_tail ∷ utf8_tail ∷ []) b (d ∷ []) e in
        let x = went utf8_tail (utf8_tail ∷ []) d [] w.after in
        ended utf8_tail [] x.after
    after_four l h f g (b ∷ d ∷ c ∷ s) k e =
        let w = went first (utf8_tail ∷ utf8_tail ∷ []) b (d ∷ c ∷ s) e in
        let x = went utf8_tail (utf8_tail ∷ []) d (c ∷ s) w.after in
        let z = went utf8_tail [] c s x.after in
        let low = w.low in
        let high = w.high in
        IsUtf8-append (a ∷ b ∷ d ∷ c ∷ []) s (four_is a b d c l h (omega arith) (omega arith) (omega arith) (omega arith) (omega arith) (omega arith) (λ i. let y = f i in omega arith) (λ i. let y = g i in omega arith)) (valid s (omega arith) z.after)

  -- a character begins with `a`, by its row
  begun : (s : List ℕ) → length s ≤ n → octets (a ∷ s) [] ≡ true → IsUtf8 (a ∷ s)
  begun s k e =
      at 128 one (λ l. at 194 (none l) (λ l. at 224 (two l) (λ l. at 225 (first_three l) (λ l. at 237 (three l) (λ l. at 238 (last_three l) (λ l.
      at 240 (high_three l) (λ l. at 241 (first_four l) (λ l. at 244 (four l) (λ l. at 245 (last_four l) above)))))))))
    where
      at : (m : ℕ) → (a < m → IsUtf8 (a ∷ s)) → (m ≤ a → IsUtf8 (a ∷ s)) → IsUtf8 (a ∷ s)
      at m f g = ⊎_elim f g (order a m)

      on : (rest : List Octets) → lead chars a ≡ follow rest → octets s rest ≡ true
      on rest f = sym (begins a s rest f) ∙ e

      refuse : lead chars a ≡ bad → IsUtf8 (a ∷ s)
      refuse f = let z : ◌≡◌ {A = Bool} false true = sym (begins_none a s f) ∙ e in cc

      one : a < 128 → IsUtf8 (a ∷ s)
      one h = IsUtf8-append (a ∷ []) s (one_is a h) (valid s k (on [] (lead_one a h)))

      none : 128 ≤ a → a < 194 → IsUtf8 (a ∷ s)
      none l h = refuse (lead_none a l h)

      two : 194 ≤ a → a < 224 → IsUtf8 (a ∷ s)
      two l h = after_two l h s k (on (utf8_tail ∷ []) (lead_two a l h))

      first_three : 224 ≤ a → a < 225 → IsUtf8 (a ∷ s)
      first_three l h =
          let f = on (octet_range 0xA0 0xBF ∷ utf8_tail ∷ []) (lead_224 a (omega arith)) in
          after_three (octet_range 0xA0 0xBF) (omega arith) (omega arith) l (omega arith) (λ i. omega arith) (λ i. absurd (omega arith)) s k f

      three : 225 ≤ a → a < 237 → IsUtf8 (a ∷ s)
      three l h =
          let f = on (utf8_tail ∷ utf8_tail ∷ []) (lead_three a l h) in
          after_three utf8_tail (omega arith) (omega arith) (omega arith) (omega arith) (λ i. absurd (omega arith)) (λ i. absurd (omega arith)) s k f

      last_three : 237 ≤ a → a < 238 → IsUtf8 (a ∷ s)
      last_three l h =
          let f = on (octet_range 0x80 0x9F ∷ utf8_tail ∷ []) (lead_237 a (omega arith)) in
          after_three (octet_range 0x80 0x9F) (omega arith) (omega arith) (omega arith) (omega arith) (λ i. absurd (omega arith)) (λ i. omega arith) s k f

      high_three : 238 ≤ a → a < 240 → IsUtf8 (a ∷ s)
      high_three l h =
          let f = on (utf8_tail ∷ utf8_tail ∷ []) (lead_three_high a l h) in
          after_three utf8_tail (omega arith) (omega arith) (omega arith) h (λ i. absurd (omega arith)) (λ i. absurd (omega arith)) s k f

      first_four : 240 ≤ a → a < 241 → IsUtf8 (a ∷ s)
      first_four l h =
          let f = on (octet_range 0x90 0xBF ∷ utf8_tail ∷ utf8_tail ∷ []) (lead_240 a (omega arith)) in
          after_four (octet_range 0x90 0xBF) (omega arith) (omega arith) l (omega arith) (λ i. omega arith) (λ i. absurd (omega arith)) s k f

      four : 241 ≤ a → a < 244 → IsUtf8 (a ∷ s)
      four l h =
          let f = on (utf8_tail ∷ utf8_tail ∷ utf8_tail ∷ []) (lead_four a l h) in
          after_four utf8_tail (omega arith) (omega arith) (omega arith) (omega arith) (λ i. absurd (omega arith)) (λ i. absurd (omega arith)) s k f

      last_four : 244 ≤ a → a < 245 → IsUtf8 (a ∷ s)
      last_four l h =
          let f = on (octet_range 0x80 0x8F ∷ utf8_tail ∷ utf8_tail ∷ []) (lead_244 a (omega arith)) in
          after_four (octet_range 0x80 0x8F) (omega arith) (omega arith) (omega arith) h (λ i. absurd (omega arith)) (λ i. omega arith) s k f

      above : 245 ≤ a → IsUtf8 (a ∷ s)
      above l = refuse (lead_above a l)

characters : (n : ℕ) (s : List ℕ) → length s ≤ n → octets s [] ≡ true → IsUtf8 s
characters n [] l h = IsUtf8-nil
characters zero (a ∷ s) l h = absurd (omega arith)
characters (suc n) (a ∷ s) l h = begun n (characters n) a s (omega arith) h

pub IsUtf8-from_utf8 : (s : List ℕ) → utf8 s ≡ true → IsUtf8 s
IsUtf8-from_utf8 s h = characters (length s) s (omega arith) h

-- what the library's test says, as a bool
pub tested : {A E : Type 0} (s : List ℕ) (r : Result A E) → MatchResult r (λ _. IsUtf8 s) (λ _. IsUtf8 s → ⊥) → is_ok r ≡ utf8 s
tested s (Ok t) h = sym (utf8-from_IsUtf8 s h)
tested s (Err x) h = go (utf8 s) refl
  where
    go : (b : Bool) → utf8 s ≡ b → false ≡ b
    go true e = absurd (h (IsUtf8-from_utf8 s e))
    go false e = refl
