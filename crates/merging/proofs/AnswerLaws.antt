-- Laws of the merge's answers, by the tests of the code. Assumes nothing but that the images' bytes are below 256.
use Prim.Native.Nat.{ℕ, ◌+◌, ◌-◌, ◌≤◌, ◌<◌}
use mathlib.Core.Path.{◌≡◌, refl, ap, sym, ◌∙◌}
use mathlib.Core.List.{List, ◌++◌}
use mathlib.Core.Bool.{Bool, true}
use native.Mathlib.Omega.{arith}
use lib.ListN.{length, length-append}
use borrow.Author.Tests.{le-leb, lt-leb}
use Rattle.wire.specs.Parse.{Refusal, refusal, ok, refused}
use Rattle.table.specs.Table.{CoeffTable}
use Rattle.table.specs.Span.{Verdict, agreed, broken, consistent, agrees}
use Rattle.table.specs.Decode.{decode, entries_of}
use Rattle.table.specs.Encode.{encode}
use Rattle.table.specs.Answer.{counts}
use Rattle.table.proofs.ReadLaws.{accepted-table, refused-is}
use Rattle.table.proofs.RoundTrip.{Bytes}
use Rattle.merging.specs.Merge.{joined, MergeOutcome, written, first_refused, second_refused, merge_refused, joined_outcome, merging, MergedInto, MergeLeaves}
use Rattle.merging.specs.declared.extent.Extent.{Extent}
use Rattle.merging.specs.inner.Image.{stable, stable_image, stable_over, ResultFits}
use Rattle.merging.proofs.MergeLaws.{stable-merged, merged-size, joined-size}
use Rattle.merging.proofs.ImageLaws.{Holds, holds-entries}

-- an answer, and the target before and after, as the contract has them
abbrev pub Answers : List ℕ → List ℕ → MergeOutcome → List ℕ → List ℕ → Type 0
Answers s v r before after = (r ≡ merging (decode s) (decode v) (length before)) × MergeLeaves (decode s) (decode v) before after

-- LAW: the first image's refusal comes before anything of the second
pub first-no : (s v : List ℕ) (r : Refusal) (before : List ℕ) → counts (decode s) ≡ refused r → Answers s v (first_refused r) before before
first-no s v r before h = rw (refused-is s r h) (refl, refl)

-- LAW: then comes the second's
pub second-no : (s v : List ℕ) (n e : ℕ) (r : Refusal) (before : List ℕ) → counts (decode s) ≡ ok n e → counts (decode v) ≡ refused r → Answers s v (second_refused r) before before
second-no s v n e r before h g = accepted-table s n e h λ t p l. rw (p, refused-is v r g) (refl, refl)

-- a verdict by its test
pub agreed-so : (v : Verdict) → agrees v ≡ true → v ≡ agreed
agreed-so agreed h = refl
agreed-so (broken r) h = let z : ◌≡◌ {A = ℕ} 0 1 = cc in absurd (omega arith)

-- ---- the questions of two accepted tables and a target of n bytes, in the card's numbers
module _ (t u : CoeffTable) (n : ℕ) where
  abbrev size : ℕ
  size = length (encode (joined t u))

  -- LAW: 21 where the joined list fails question 7
  pub question-21 : (r : Refusal) → consistent (t.entries ++ u.entries) ≡ broken r → joined_outcome (joined t u) n ≡ merge_refused (refusal 21 0 0)
  question-21 r h = rw h refl

  -- LAW: then 22 where the result would pass 65,536 bytes
  pub question-22 : consistent (t.entries ++ u.entries) ≡ agreed → 65536 < size → joined_outcome (joined t u) n ≡ merge_refused (refusal 22 0 0)
  question-22 h g = rw (h, lt-leb size 65536 g) refl

  -- LAW: then 23 where the target is too short for it
  pub question-23 : consistent (t.entries ++ u.entries) ≡ agreed → size ≤ 65536 → n < size → joined_outcome (joined t u) n ≡ merge_refused (refusal 23 0 0)
  question-23 h g k = rw (h, le-leb size 65536 g, lt-leb size n k) refl

  -- LAW: and else it is written, with the sum of the entries
  pub none-refused : consistent (t.entries ++ u.entries) ≡ agreed → size ≤ 65536 → size ≤ n
      → joined_outcome (joined t u) n ≡ written (length t.entries + length u.entries) size
  none-refused h g k = rw (h, le-leb size 65536 g, le-leb size n k, length-append t.entries u.entries) refl

-- ---- two accepted images, and the code's tests one after the other
module _ (s v : List ℕ) (bs : Bytes s) (bv : Bytes v) (x y : Extent) (p : Holds s x) (q : Holds v y) where
  abbrev t : CoeffTable
  t = p.table

  abbrev u : CoeffTable
  u = q.table

  abbrev bytes : ℕ
  bytes = x.end + (y.end - y.at)

  bytes-are : length (encode (joined t u)) ≡ bytes
  bytes-are = joined-size s v bs bv t u x.end y.end p.read q.read ∙ ap (λ (n : ℕ). x.end + (y.end - n)) (sym q.start)

  abbrev verdict : Bool
  verdict = agrees (consistent (entries_of (decode s) ++ entries_of (decode v)))

  verdict-is : verdict ≡ agrees (consistent (t.entries ++ u.entries))
  verdict-is = rw (holds-entries s x p, holds-entries v y q) refl

  all-agreed : verdict ≡ true → consistent (t.entries ++ u.entries) ≡ agreed
  all-agreed h = agreed-so (consistent (t.entries ++ u.entries)) (sym verdict-is ∙ h)

  image-length : length (stable_image (decode s) (decode v)) ≡ bytes
  image-length = rw (p.read, q.read) (merged-size t u (stable t u) (stable-merged t u) ∙ bytes-are)

  pub result_fits : (n : ℕ) → bytes ≤ 65536 → bytes ≤ n → ResultFits (decode s) (decode v) n
  result_fits n g k = (rw image-length g, rw image-length k)

  module _ (before : List ℕ) where
    -- from an answer of the questions
    refuse : (r : Refusal) → joined_outcome (joined t u) (length before) ≡ merge_refused r → Answers s v (merge_refused r) before before
    refuse r k = rw (p.read, q.read, k) (refl, refl)

    pub out-22 : verdict ≡ true → 65536 < bytes → Answers s v (merge_refused (refusal 22 0 0)) before before
    out-22 h g = refuse (refusal 22 0 0) (question-22 t u (length before) (all-agreed h) (rw bytes-are g))

    pub out-23 : verdict ≡ true → bytes ≤ 65536 → length before < bytes → Answers s v (merge_refused (refusal 23 0 0)) before before
    out-23 h g k = refuse (refusal 23 0 0) (question-23 t u (length before) (all-agreed h) (rw bytes-are g) (rw bytes-are k))

    pub out_written : verdict ≡ true → bytes ≤ 65536 → bytes ≤ length before → (after : List ℕ) → after ≡ stable_over (decode s) (decode v) before
        → Answers s v (written (x.count + y.count) bytes) before after
    out_written h g k after z =
        let c : length t.entries + length u.entries ≡ x.count + y.count = sym (ap (λ (n : ℕ). n + y.count) p.count ∙ ap (λ (n : ℕ). length t.entries + n) q.count) in
        let o : joined_outcome (joined t u) (length before) ≡ written (x.count + y.count) bytes =
        none-refused t u (length before) (all-agreed h) (rw bytes-are g) (rw bytes-are k) ∙ rw (c, bytes-are) refl in
        let d : MergedInto t u before after = record { entries = stable t u; merged = stable-merged t u; bytes = rw (p.read, q.read) at z } in
        rw (p.read, q.read, o) (refl, d)
