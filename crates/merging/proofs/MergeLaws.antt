-- What the contract of a merge allows: all of it has one size, one row of pitches and is accepted; the stable order is one of it.
-- Assumes nothing but that the images' bytes are below 256.
use Prim.Native.Nat.{ℕ, ◌+◌, ◌-◌, ◌≤◌}
use mathlib.Core.Path.{◌≡◌, refl, ap, sym, ◌∙◌}
use mathlib.Core.List.{List, [], ◌++◌, map, append-nil}
use native.Mathlib.Omega.{arith}
use lib.ListN.{length, length-append}
use Rattle.wire.specs.Parse.{ok}
use Rattle.table.specs.Table.{PitchEntry, CoeffTable}
use Rattle.table.specs.Span.{agreed, consistent}
use Rattle.table.specs.Decode.{decode}
use Rattle.table.specs.Encode.{put_all, put_entry, encode}
use Rattle.table.proofs.RoundTrip.{Bytes, decode-encode}
use Rattle.merging.specs.Order.{Put, here, later, Arranged, nothing, more, Ascending, pitch_rank}
use Rattle.merging.specs.inner.Sorted.{in_order, of_key}
use Rattle.merging.proofs.OrderLaws.{every-join, every-arranged, arranged-self, arranged-order, ascending-order, length-arranged}
use Rattle.merging.proofs.LaidLaws.{put-append}
use Rattle.merging.proofs.SortLaws.{keys-same}
use Rattle.merging.proofs.EqualKeys.{arranged-of, distinct-one}
use Rattle.merging.specs.inner.Image.{head_of}
use Rattle.merging.specs.Merge.{with_entries, joined, Merged}
use Rattle.merging.proofs.SpanOrder.{consistent-arranged}
use Rattle.merging.proofs.AcceptedLaws.{Readable, readable-entries, accepted-encode, encode-entries, head-length}

-- things one after the other are as long in any order
module _ {A : Type 0} (f : A → List ℕ) where
  put-size : {a : A} {l m : List A} → Put a l m → length (put_all f m) ≡ length (f a) + length (put_all f l)
  unfolding put_all
  put-size {a} (here {l = l}) = length-append (f a) (put_all f l)
  put-size {a} (later {b = b} {l = l} {m = m} q) =
      let e : length (put_all f m) ≡ length (f a) + length (put_all f l) = put-size q in
      let x : length (f b ++ put_all f m) ≡ length (f b) + length (put_all f m) = length-append (f b) (put_all f m) in
      let y : length (f b ++ put_all f l) ≡ length (f b) + length (put_all f l) = length-append (f b) (put_all f l) in
      omega arith

  pub arranged-size : {l m : List A} → Arranged l m → length (put_all f m) ≡ length (put_all f l)
  unfolding put_all
  arranged-size nothing = refl
  arranged-size (more {a = a} {l = l} r q) = put-size q ∙ ap (λ (n : ℕ). length (f a) + n) (arranged-size r) ∙ sym (length-append (f a) (put_all f l))

pub size_is : (t : CoeffTable) (es : List PitchEntry) → length (encode (with_entries t es)) ≡ 14 + length t.name + length (put_all put_entry es)
size_is t es = ap length (encode-entries t es) ∙ length-append (head_of t.name (length es)) (put_all put_entry es) ∙ ap (λ (n : ℕ). n + length (put_all put_entry es)) (head-length t es)

pub entries-size : (s : List ℕ) → Bytes s → (t : CoeffTable) (e : ℕ) → decode s ≡ ok t e → 14 + length t.name + length (put_all put_entry t.entries) ≡ e
unfolding encode
entries-size s byte t e h = sym (size_is t t.entries) ∙ (decode-encode s byte t e h).1

-- LAW: the result's length, from where the two images end and the second's name
pub joined-size : (s v : List ℕ) → Bytes s → Bytes v → (t u : CoeffTable) (e f : ℕ) → decode s ≡ ok t e → decode v ≡ ok u f
    → length (encode (joined t u)) ≡ e + (f - (14 + length u.name))
joined-size s v bs bv t u e f hs hv =
    let k : 14 + length t.name + length (put_all put_entry t.entries) ≡ e = entries-size s bs t e hs in
    let l : 14 + length u.name + length (put_all put_entry u.entries) ≡ f = entries-size v bv u f hv in
    let r : length (put_all put_entry (t.entries ++ u.entries)) ≡ length (put_all put_entry t.entries) + length (put_all put_entry u.entries) =
    ap length (put-append put_entry t.entries u.entries) ∙ length-append (put_all put_entry t.entries) (put_all put_entry u.entries) in
    let z : length (encode (joined t u)) ≡ 14 + length t.name + length (put_all put_entry (t.entries ++ u.entries)) = size_is t (t.entries ++ u.entries) in
    omega arith

module _ (t u : CoeffTable) where
  -- LAW: the stable order is allowed
  pub stable-merged : Merged t u (in_order pitch_rank (t.entries ++ u.entries))
  stable-merged = record { every = arranged-order pitch_rank (t.entries ++ u.entries); ascending = ascending-order pitch_rank (t.entries ++ u.entries) }

  module _ (es : List PitchEntry) (w : Merged t u es) where
    -- LAW: the count is the sum, and the size is the joined table's
    pub merged-count : length es ≡ length t.entries + length u.entries
    merged-count = length-arranged w.every ∙ length-append t.entries u.entries

    pub merged-size : length (encode (with_entries t es)) ≡ length (encode (joined t u))
    merged-size = size_is t es ∙ ap (λ (n : ℕ). 14 + length t.name + n) (arranged-size put_entry w.every) ∙ sym (size_is t (t.entries ++ u.entries))

    -- LAW: with a table of no entries it is the other's entries, in pitch order
    pub merged-none-second : u.entries ≡ [] → Arranged t.entries es
    merged-none-second h = rw (h, append-nil t.entries) at w.every

    pub merged-none-first : t.entries ≡ [] → Arranged u.entries es
    merged-none-first h = rw h at w.every

    -- LAW: two lists that are allowed differ only in the order of entries of equal pitch: place by place they have the same pitches, and the
    -- entries of each pitch are those of the two tables, each exactly one time
    pub merged-pitches : (fs : List PitchEntry) → Merged t u fs → map pitch_rank es ≡ map pitch_rank fs
    merged-pitches fs v = keys-same pitch_rank w.every w.ascending ∙ sym (keys-same pitch_rank v.every v.ascending)

    pub merged-within : (p : ℕ) → Arranged (of_key pitch_rank p (t.entries ++ u.entries)) (of_key pitch_rank p es)
    merged-within p = arranged-of pitch_rank p w.every

    -- LAW: so where no pitch is there twice, one list is allowed
    pub merged-one : (fs : List PitchEntry) → Merged t u fs → ((p : ℕ) → length (of_key pitch_rank p (t.entries ++ u.entries)) ≤ 1) → es ≡ fs
    merged-one fs v few = distinct-one pitch_rank w.every v.every w.ascending v.ascending few

    -- LAW: and a table with strictly ascending pitches, merged with an empty one, is rewritten
    pub merged-alone : u.entries ≡ [] → Ascending pitch_rank t.entries → ((p : ℕ) → length (of_key pitch_rank p t.entries) ≤ 1)
        → encode (with_entries t es) ≡ encode t
    unfolding encode
    merged-alone h up few =
        let x : t.entries ++ u.entries ≡ t.entries = ap (λ (l : List PitchEntry). t.entries ++ l) h ∙ append-nil t.entries in
        let v : Merged t u t.entries = record { every = rw x (arranged-self t.entries); ascending = up } in
        let y : es ≡ t.entries = merged-one t.entries v (λ p. rw x (few p)) in
        rw y refl

    -- LAW: the reader accepts it, as the table that was written
    pub merged-accepted : (s v : List ℕ) → Bytes s → Bytes v → (e f : ℕ) → decode s ≡ ok t e → decode v ≡ ok u f
        → consistent (t.entries ++ u.entries) ≡ agreed → length (encode (joined t u)) ≤ 65536
        → decode (encode (with_entries t es)) ≡ ok (with_entries t es) (length (encode (with_entries t es)))
    merged-accepted s v bs bv e f h g k l =
        accepted-encode t es s bs e h
        (every-arranged Readable w.every (every-join Readable t.entries u.entries (readable-entries s bs t e h) (readable-entries v bv u f g)))
        (consistent-arranged w.every k)
        (rw merged-size l)
