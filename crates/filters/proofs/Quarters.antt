-- The wave of a lent list by its four quarters, and its size.
use Rattle.std.proofs.Common.{◌≡◌, ℕ, ◌-◌, ◌<◌, ◌≤◌, min, Bool, true, false, cond, leb, List, get_or, ℤ, pos, nat_abs, ap, ◌∙◌, le_trans, le_of_eq, arith, le-leb}
use borrow.Author.Tests.{lt-leb}
use Rattle.float.proofs.Ints.{abs_neg}
use Rattle.filters.specs.Wave.{quarter_in, signed_in, wave_in}

pub wider : (n : ℕ) → n ≤ 8388608 → n ≤ 16777216
wider n h = omega arith

-- T(k) as the list has it is at most 2 ^ 23
quarter-small : (xs : List ℕ) (k : ℕ) → quarter_in xs k ≤ 8388608
quarter-small xs k = held (get_or xs k 0)
  where
    held : (n : ℕ) → min n 8388608 ≤ 8388608
    held n = omega arith

module _ (xs : List ℕ) where
  -- ---- the quarters
  abbrev pick : ℕ → Bool → Bool → Bool → ℤ
  pick k a b c = cond a (signed_in xs false k) (cond b (signed_in xs false (512 - k)) (cond c (signed_in xs true (k - 512)) (signed_in xs true (1024 - k))))

  pub first : (k : ℕ) → k ≤ 256 → wave_in xs k ≡ signed_in xs false k
  unfolding wave_in
  first k h = ap (λ (b : Bool). pick k b (leb k 512) (leb k 768)) (le-leb k 256 h)

  pub second : (k : ℕ) → 256 < k → k ≤ 512 → wave_in xs k ≡ signed_in xs false (512 - k)
  unfolding wave_in
  second k g h = ap (λ (b : Bool). pick k b (leb k 512) (leb k 768)) (lt-leb k 256 g) ∙ ap (λ (b : Bool). pick k false b (leb k 768)) (le-leb k 512 h)

  pub third : (k : ℕ) → 256 < k → 512 < k → k ≤ 768 → wave_in xs k ≡ signed_in xs true (k - 512)
  unfolding wave_in
  third k f g h = ap (λ (b : Bool). pick k b (leb k 512) (leb k 768)) (lt-leb k 256 f) ∙ ap (λ (b : Bool). pick k false b (leb k 768)) (lt-leb k 512 g) ∙ ap (λ (b : Bool). pick k false false b) (le-leb k 768 h)

  pub fourth : (k : ℕ) → 256 < k → 512 < k → 768 < k → wave_in xs k ≡ signed_in xs true (1024 - k)
  unfolding wave_in
  fourth k f g h = ap (λ (b : Bool). pick k b (leb k 512) (leb k 768)) (lt-leb k 256 f) ∙ ap (λ (b : Bool). pick k false b (leb k 768)) (lt-leb k 512 g) ∙ ap (λ (b : Bool). pick k false false b) (lt-leb k 768 h)

  -- ---- the size: 2 ^ 23 at most
  signed-abs : (minus : Bool) (k : ℕ) → nat_abs (signed_in xs minus k) ≤ 8388608
  signed-abs true k = le_trans (le_of_eq (abs_neg (pos (quarter_in xs k)))) (quarter-small xs k)
  signed-abs false k = quarter-small xs k

  pub wave-abs : (k : ℕ) → nat_abs (wave_in xs k) ≤ 8388608
  unfolding wave_in
  wave-abs k = go (leb k 256) (leb k 512) (leb k 768)
    where
      go : (a b c : Bool) → nat_abs (pick k a b c) ≤ 8388608
      go true b c = signed-abs false k
      go false true c = signed-abs false (512 - k)
      go false false true = signed-abs true (k - 512)
      go false false false = signed-abs true (1024 - k)
