-- Laws on a decimal number whose bytes come one after the other. Assumes nothing.
use Rattle.std.proofs.Common.{◌≡◌, ℕ, Bool, true, false, cond, eqb, List, [], ◌∷◌, Option, Some, None, Bor, length, sym, refl, ◌∙◌, arith, lt-ltb, eq-eqb, ne_eqb}
use Rattle.std.specs.Option.{option_and_then}
use Rattle.std.specs.Iterator.{AlwaysYields}
use Rattle.console.specs.declared.decimal.Decimal.{Decimal}
use Rattle.console.specs.declared.decimal.Scan.{Scan}
use Rattle.console.specs.Decimal.{start_scan, next_scan, scanned, concluded, read_of}

-- no byte makes a number of text that is none
scanned-none : (text : List ℕ) → scanned None text ≡ None
unfolding scanned
scanned-none [] = refl
scanned-none (b ∷ bs) = scanned-none bs

-- what is known of a number after its first byte
after_first : ℕ → List ℕ → Option Decimal
after_first b rest =
    cond (eqb b 45) (option_and_then (concluded true) (scanned (Some start_scan) rest))
    (option_and_then (concluded false) (scanned (next_scan start_scan b) rest))

read-first : (b : ℕ) (rest : List ℕ) → read_of (b ∷ rest) ≡ after_first b rest
unfolding read_of scanned after_first
read-first b rest = rw (lt-ltb 0 (length (b ∷ rest)) (omega arith))

module _ {S : Type 0} (steps : S → Option (Bor ℕ) → S → Type 0) where
  -- the bytes that calls from s give
  abbrev pub Gives : S → List ℕ → Type 0
  Gives s text = AlwaysYields steps (λ (b : Bor ℕ). b.now) s text

  -- s has given some bytes of a text, of which the number is known so far; the rest is to come
  abbrev pub Left : S → List ℕ → Bool → Scan → Type 0
  Left s all negative scan =
      (rest : List ℕ) × Gives s rest × (option_and_then (concluded negative) (scanned (Some scan) rest) ≡ read_of all)

  -- the first byte
  pub none-spelled : (s u : S) (all : List ℕ) → Gives s all → steps s None u → None ≡ read_of all
  unfolding read_of scanned
  none-spelled s u [] gives step = refl
  none-spelled s u (b ∷ bs) gives step = absurd (gives.0 u step)

  pub left-minus : (s u : S) (all : List ℕ) → Gives s all → (b : Bor ℕ) → steps s (Some b) u → b.now ≡ 45 →
      Left u all (eqb b.now 45) start_scan
  unfolding after_first
  left-minus s u [] gives b step e = absurd (gives b u step)
  left-minus s u (x ∷ rest) gives b step e =
      let h = gives.1 b u step in
      rw (eq-eqb b.now 45 e) (rest, h.1, sym (read-first x rest ∙ rw (← h.0, eq-eqb b.now 45 e)))

  pub left-first :
      (s u : S) (all : List ℕ) → Gives s all → (b : Bor ℕ) → steps s (Some b) u → (scan : Scan) → (b.now ≡ 45 → ⊥)
      → Some scan ≡ next_scan start_scan b.now → Left u all (eqb b.now 45) scan
  unfolding after_first
  left-first s u [] gives b step scan e f = absurd (gives b u step)
  left-first s u (x ∷ rest) gives b step scan e f =
      let h = gives.1 b u step in
      rw (ne_eqb b.now 45 e) (rest, h.1, sym (read-first x rest ∙ rw (← h.0, ne_eqb b.now 45 e, ← f)))

  pub first-wrong :
      (s u : S) (all : List ℕ) → Gives s all → (b : Bor ℕ) → steps s (Some b) u → (b.now ≡ 45 → ⊥)
      → None ≡ next_scan start_scan b.now → None ≡ read_of all
  unfolding after_first
  first-wrong s u [] gives b step e f = absurd (gives b u step)
  first-wrong s u (x ∷ rest) gives b step e f =
      let h = gives.1 b u step in
      sym (read-first x rest ∙ rw (← h.0, ne_eqb b.now 45 e, ← f, scanned-none rest))

  -- each byte after it
  module _ (all : List ℕ) (negative : Bool) (scan : Scan) where
    pub left-next :
        (s u : S) (left : Left s all negative scan) (b : Bor ℕ) (t : Scan) → steps s (Some b) u → Some t ≡ next_scan scan b.now
        → Left u all negative t
    unfolding scanned
    left-next s u ([], gives, is) b t step e = absurd (gives b u step)
    left-next s u (x ∷ rest, gives, is) b t step e =
        let h = gives.1 b u step in
        (rest, h.1, rw (e, h.0) is)

    pub left-wrong :
        (s u : S) (left : Left s all negative scan) (b : Bor ℕ) → steps s (Some b) u → None ≡ next_scan scan b.now → None ≡ read_of all
    unfolding scanned
    left-wrong s u ([], gives, is) b step e = absurd (gives b u step)
    left-wrong s u (x ∷ rest, gives, is) b step e =
        let h = gives.1 b u step in
        (rw (← h.0, ← e, scanned-none rest) at is)

    -- and the last
    pub left-end : (s u : S) (left : Left s all negative scan) → steps s None u → concluded negative scan ≡ read_of all
    unfolding scanned
    left-end s u ([], gives, is) step = is
    left-end s u (x ∷ rest, gives, is) step = absurd (gives.0 u step)
