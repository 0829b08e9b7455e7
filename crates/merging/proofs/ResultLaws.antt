-- Laws of a merge's answers and results, as the contract has them: what was written is read again as the table that was asked for, and no
-- two answers share number, values and image. Assumes nothing but that the images' bytes are below 256.
use Prim.Native.Nat.{ℕ, ◌+◌, ◌≤◌}
use mathlib.Core.Path.{◌≡◌, refl, ap, sym, ◌∙◌}
use mathlib.Core.List.{List, ◌++◌}
use mathlib.Core.Bool.{Bool, true, false, cond}
use native.Mathlib.Omega.{arith}
use lib.ListN.{length, take, drop}
use Rattle.std.specs.Prelude.{Result, Ok, Err}
use lib.Seq.{take_at, drop_at}
use lib.Dec.{leb, eqb}
use borrow.Author.Tests.{leb-true}
use Rattle.wire.specs.Parse.{refusal, Parsed, ok, refused}
use Rattle.table.specs.Table.{CoeffTable}
use Rattle.table.specs.Span.{agreed, consistent, agrees}
use Rattle.table.specs.Decode.{decode}
use Rattle.table.specs.Encode.{encode}
use Rattle.table.proofs.RoundTrip.{Bytes}
use Rattle.table.proofs.Apart.{apart, error_of, error-back}
use Rattle.table.specs.declared.error.CoeffTableCodecError.{CoeffTableCodecError}
use Rattle.table.specs.declared.rewrite.Written.{Written}
use Rattle.merging.specs.declared.tables.MergeError.{MergeError}
use Rattle.merging.specs.Merge.{with_entries, joined, Merged, MergeOutcome, written, first_refused, second_refused, merge_refused, joined_outcome, merging, MergedInto, LeftBy, MergeLeaves}
use Rattle.merging.specs.Answer.{refused_outcome, merging_outcome}
use Rattle.merging.proofs.OrderLaws.{length-arranged}
use Rattle.merging.proofs.AnswerLaws.{agreed-so}
use Rattle.merging.proofs.MergeLaws.{merged-count, merged-size, merged-accepted}

-- what an accepted merge of a joined table into m bytes was asked
record Asked (j : CoeffTable) (m n bytes : ℕ) : Type 0 where
  pub spans : consistent j.entries ≡ agreed
  pub short : length (encode j) ≤ 65536
  pub room : length (encode j) ≤ m
  pub count : length j.entries ≡ n
  pub size : length (encode j) ≡ bytes

asked-so : (j : CoeffTable) (m n bytes : ℕ) → joined_outcome j m ≡ written n bytes → Asked j m n bytes
asked-so j m n bytes h = go (agrees (consistent j.entries)) (leb (length (encode j)) 65536) (leb (length (encode j)) m) refl refl refl h
  where
    go : (a b c : Bool) → agrees (consistent j.entries) ≡ a → leb (length (encode j)) 65536 ≡ b → leb (length (encode j)) m ≡ c
        → cond a (cond b (cond c (written (length j.entries) (length (encode j))) (merge_refused (refusal 23 0 0))) (merge_refused (refusal 22 0 0))) (merge_refused (refusal 21 0 0)) ≡ written n bytes
        → Asked j m n bytes
    go true true true x y z k =
        let p : length j.entries ≡ n = cc in
        let q : length (encode j) ≡ bytes = cc in
        record { spans = agreed-so (consistent j.entries) x; short = leb-true _ _ y; room = leb-true _ _ z; count = p; size = q }
    go true true false x y z k = let w : ◌≡◌ {A = ℕ} 0 1 = cc in absurd (omega arith)
    go true false c x y z k = let w : ◌≡◌ {A = ℕ} 0 1 = cc in absurd (omega arith)
    go false b c x y z k = let w : ◌≡◌ {A = ℕ} 0 1 = cc in absurd (omega arith)

-- what a merge wrote, read again
pub record ReadAgain (t u : CoeffTable) (n bytes : ℕ) (before after : List ℕ) : Type 0 where
  pub table : CoeffTable
  pub read : decode (take bytes after) ≡ ok table bytes
  pub version : table.version ≡ 1
  pub name : table.name ≡ t.name
  pub merged : Merged t u table.entries
  pub count : length table.entries ≡ n
  pub sum : n ≡ length t.entries + length u.entries
  pub short : bytes ≤ 65536
  pub beyond : drop bytes after ≡ drop bytes before

-- LAW: the reader accepts the result whole: version 1, the first one's name, the list of both, and nothing after the last entry; the entry
-- count is the sum, and the target's bytes beyond stay
pub written_read : (s v : List ℕ) → Bytes s → Bytes v → (t u : CoeffTable) (e f : ℕ) → decode s ≡ ok t e → decode v ≡ ok u f
    → (before after : List ℕ) (n bytes : ℕ) → merging (decode s) (decode v) (length before) ≡ written n bytes
    → MergeLeaves (decode s) (decode v) before after → ReadAgain t u n bytes before after
written_read s v bs bv t u e f hs hv before after n bytes h g =
    let o : joined_outcome (joined t u) (length before) ≡ written n bytes = rw (hs, hv) at h in
    let q = asked-so (joined t u) (length before) n bytes o in
    let w : MergedInto t u before after = rw (hs, hv, o) at g in
    let image : List ℕ = encode (with_entries t w.entries) in
    let z : length image ≡ bytes = merged-size t u w.entries w.merged ∙ q.size in
    let a : take bytes after ≡ image = ap (take bytes) w.bytes ∙ take_at image (drop (length image) before) bytes z in
    let b : drop bytes after ≡ drop (length image) before = ap (drop bytes) w.bytes ∙ drop_at image (drop (length image) before) bytes z in
    let c : length w.entries ≡ length t.entries + length u.entries = merged-count t u w.entries w.merged in
    let d : length (t.entries ++ u.entries) ≡ n = q.count in
    let i = merged-accepted t u w.entries w.merged s v bs bv e f hs hv q.spans q.short in
    record {
      table = with_entries t w.entries;
      read = ap decode a ∙ i ∙ ap (λ (x : ℕ). ok (with_entries t w.entries) x) z;
      version = refl;
      name = refl;
      merged = w.merged;
      count = length-arranged w.merged.every ∙ d;
      sum = sym (length-arranged w.merged.every ∙ d) ∙ c;
      short = rw (sym q.size) q.short;
      beyond = b ∙ ap (λ (x : ℕ). drop x before) z;
    }

-- LAW: where it was not written, the target is as it was
unfoldable pub is_written : MergeOutcome → Bool
is_written (written n bytes) = true
is_written (first_refused r) = false
is_written (second_refused r) = false
is_written (merge_refused r) = false

left_so : (o : MergeOutcome) (t u : CoeffTable) (before after : List ℕ) → is_written o ≡ false → LeftBy o t u before after → after ≡ before
unfolding is_written
left_so (written n bytes) t u before after h g = let w : ◌≡◌ {A = ℕ} 0 1 = cc in absurd (omega arith)
left_so (first_refused r) t u before after h g = g
left_so (second_refused r) t u before after h g = g
left_so (merge_refused r) t u before after h g = g

pub refused-stays : (p q : Parsed CoeffTable) (before after : List ℕ) → is_written (merging p q (length before)) ≡ false
    → MergeLeaves p q before after → after ≡ before
refused-stays (refused r) q before after h g = g
refused-stays (ok t e) (refused r) before after h g = g
refused-stays (ok t e) (ok u f) before after h g = left_so (joined_outcome (joined t u) (length before)) t u before after h g

-- ---- the answers apart
abbrev error_from : ℕ → MergeError
error_from n = cond (eqb n 21) MergeError.InconsistentSpans (cond (eqb n 22) MergeError.TooLong MergeError.TargetTooShort)

abbrev merging_of : MergeOutcome → Result Written MergeError
merging_of (written n bytes) = Ok (record { entries = n; bytes = bytes })
merging_of (first_refused r) = Err (MergeError.First (error_of r))
merging_of (second_refused r) = Err (MergeError.Second (error_of r))
merging_of (merge_refused r) = Err (error_from r.number)

refused-back : (e : MergeError) → merging_of (refused_outcome e) ≡ Err e
refused-back (MergeError.First e) = ap (λ (x : CoeffTableCodecError). Err (MergeError.First x)) (error-back e)
refused-back (MergeError.Second e) = ap (λ (x : CoeffTableCodecError). Err (MergeError.Second x)) (error-back e)
refused-back MergeError.InconsistentSpans = refl
refused-back MergeError.TooLong = refl
refused-back MergeError.TargetTooShort = refl

merging-back : (m : Result Written MergeError) → merging_of (merging_outcome m) ≡ m
merging-back (Ok w) = refl
merging-back (Err e) = refused-back e

-- LAW: what the contract says of an answer fixes it
pub merging-apart : (a b : Result Written MergeError) → merging_outcome a ≡ merging_outcome b → a ≡ b
merging-apart a b e = apart merging_outcome merging_of merging-back a b e
