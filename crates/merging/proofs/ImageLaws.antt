-- Laws of the whole merge, by what the code knows of two accepted images. Assumes nothing but that the images' bytes are below 256.
use Prim.Native.Nat.{ℕ, ◌+◌, ◌-◌, ◌*◌, ◌≤◌}
use mathlib.Core.Path.{◌≡◌, refl, ap, sym, ◌∙◌}
use mathlib.Core.List.{List, [], ◌∷◌, ◌++◌}
use mathlib.Core.Bool.{true}
use native.Mathlib.Omega.{arith}
use lib.ListN.{length, take, drop, length-append}
use lib.Seq.{take_at, drop_at, drop-drop}
use borrow.Rule.Slice.PartMut.{put_mid}
use Rattle.wire.specs.Parse.{Parsed, ok}
use Rattle.wire.proofs.Many.{many-stand}
use Rattle.table.specs.declared.start.Start.{Start}
use Rattle.table.specs.Table.{PitchEntry, CoeffTable}
use Rattle.table.specs.Size.{total, entry_size}
use Rattle.table.specs.Image.{entry, entries}
use Rattle.table.specs.inner.Entry.{entry_list}
use Rattle.table.specs.Span.{Verdict, agreed, broken, consistent, ruled}
use Rattle.table.specs.Start.{start_of}
use Rattle.table.specs.Decode.{decode, name_of, entries_of}
use Rattle.table.specs.Encode.{put_all, put_entry}
use Rattle.table.proofs.SizeLaws.{entry-end, many-end}
use Rattle.table.proofs.StartLaws.{start_is}
use Rattle.table.proofs.ReadLaws.{accepted-table}
use Rattle.table.proofs.Spelled.{read_again, table-parts}
use Rattle.table.proofs.RoundTrip.{Bytes}
use Rattle.merging.proofs.OrderLaws.{length-arranged, arranged-order, length-order}
use Rattle.merging.specs.Order.{pitch_rank, Every}
use Rattle.merging.specs.declared.extent.Extent.{Extent}
use Rattle.merging.specs.declared.accepted.Accepted.{Accepted}
use Rattle.merging.specs.inner.Extent.{AcceptedAt}
use Rattle.table.specs.inner.Answers.{reads}
use Rattle.merging.specs.declared.keys.Key.{Key}
use Rattle.merging.specs.inner.Keys.{rank, Fitting, keys_from, keys_of, joined_bytes}
use Rattle.merging.specs.inner.Image.{laid, head_of, stable, stable_image, stable_over}
use Rattle.merging.proofs.AcceptedLaws.{encode-entries, head-length}
use Rattle.merging.proofs.KeyLaws.{length-keys, keys-fit, keys-merged}

-- what an accepted image holds
pub record Holds (s : List ℕ) (x : Extent) : Type 0 where
  pub table : CoeffTable
  pub read : decode s ≡ ok table x.end
  pub reading : entries x.count s x.at ≡ ok table.entries x.end
  pub start : x.at ≡ 14 + length table.name
  pub count : x.count ≡ length table.entries
  pub short : length s ≤ 65536
  pub inside : x.at ≤ x.end
  pub end : x.end ≤ length s
  pub agree : consistent table.entries ≡ agreed

ruled-agreed : (v : Verdict) (e : ℕ) → ruled v e ≡ ok true e → v ≡ agreed
ruled-agreed agreed e h = refl
ruled-agreed (broken r) e h = let z : ◌≡◌ {A = ℕ} 0 1 = cc in absurd (omega arith)

pub holds : (s : List ℕ) → Bytes s → (x : Extent) → AcceptedAt s x → Holds s x
holds s byte x w =
    accepted-table s x.count x.end w.accepted λ t h l.
    let r = read_again s byte t x.end h in
    table-parts s t x.end h λ d at es p.
    let k : record { count = d.count; at = at } ≡ start_of (ok t x.end) = sym (start_is s d at t x.end p.head h) ∙ ap start_of h in
    let c : d.count ≡ x.count = ap (λ (r : Start). r.count) k ∙ l in
    let o : x.at ≡ 14 + length t.name = w.start ∙ ap (λ (q : Parsed CoeffTable). 14 + length (name_of q)) h in
    let y : at ≡ x.at = ap (λ (r : Start). r.at) k ∙ sym o in
    let same : es ≡ t.entries = ap (λ (r : CoeffTable). r.entries) (sym p.whole) in
    let f : entries x.count s x.at ≡ ok t.entries x.end = rw (c, y, same) at p.rest in
    let z : x.end ≡ x.at + total entry_size t.entries = many-end entry entry_size s (λ i at e b. entry-end i s at e b) x.count 0 x.at x.end t.entries f in
    record {
      table = t;
      read = h;
      reading = f;
      start = o;
      count = sym l;
      short = p.short;
      inside = omega arith;
      end = r.inside;
      agree = rw same at (ruled-agreed (consistent es) x.end p.ruling);
    }

pub holds-of : (a : Accepted) → Holds a.image.now a.extent
holds-of a = holds a.image.now a.bytes a.extent a.placed

module _ (s : List ℕ) (x : Extent) (w : Holds s x) where
  pub holds-reads : reads (entries x.count s x.at) ≡ true
  holds-reads = ap reads w.reading

  pub holds-entries : entries_of (decode s) ≡ w.table.entries
  holds-entries = ap entries_of w.read

  pub holds-list : entry_list x.count s x.at ≡ entries_of (decode s)
  holds-list = many-stand entry s x.count 0 x.at x.end w.table.entries w.reading ∙ sym holds-entries

  -- where the entries end, by what they take
  pub holds-end : x.end ≡ x.at + total entry_size (entry_list x.count s x.at)
  holds-end =
      many-end entry entry_size s (λ i at e b. entry-end i s at e b) x.count 0 x.at x.end w.table.entries w.reading
      ∙ ap (λ (l : List PitchEntry). x.at + total entry_size l) (sym (holds-entries) ∙ sym holds-list)

-- an entry takes 28 bytes at least
many-bytes : (l : List PitchEntry) → 28 * length l ≤ length (put_all put_entry l)
unfolding put_all put_entry
many-bytes [] = omega arith
many-bytes (a ∷ l) = let g = many-bytes l in simp length-append (omega arith)

-- of which it has no more than bytes
many-sizes : (l : List PitchEntry) → length l ≤ total entry_size l
unfolding total
many-sizes [] = omega arith
many-sizes (a ∷ l) = let g = many-sizes l in omega arith

pub few-entries : (a : Accepted) → a.extent.count ≤ 65536
few-entries a =
    let p = holds-of a in
    let n : a.extent.count ≡ length p.table.entries = p.count in
    let m : length p.table.entries ≤ total entry_size p.table.entries = many-sizes p.table.entries in
    let l : entry_list a.extent.count a.image.now a.extent.at ≡ p.table.entries = holds-list _ _ p ∙ holds-entries _ _ p in
    let e : a.extent.end ≡ a.extent.at + total entry_size p.table.entries = rw l at (holds-end _ _ p) in
    let x : a.extent.end ≤ length a.image.now = p.end in
    let y : length a.image.now ≤ 65536 = p.short in
    omega arith

-- ---- two images
module _ (s v : List ℕ) (bs : Bytes s) (bv : Bytes v) (x y : Extent) (p : Holds s x) (q : Holds v y) (short : length (stable_image (decode s) (decode v)) ≤ 65536) where
  abbrev t : CoeffTable
  t = p.table

  abbrev u : CoeffTable
  u = q.table

  stable-length : length (stable t u) ≡ x.count + y.count
  stable-length =
      length-arranged (arranged-order pitch_rank (t.entries ++ u.entries))
      ∙ length-append t.entries u.entries
      ∙ sym (ap (λ (n : ℕ). n + y.count) p.count ∙ ap (λ (n : ℕ). length t.entries + n) q.count)

  -- the bytes of the entries, in the order of the keys
  abbrev pub rest : List ℕ
  rest = joined_bytes s (keys_of s x) v (keys_of v y)

  rest-is : rest ≡ put_all put_entry (stable t u)
  rest-is = rw (p.read, q.read) (keys-merged s v bs bv x.count y.count x.at y.at x.end y.end t.entries u.entries p.reading q.reading)

  image-is : stable_image (decode s) (decode v) ≡ head_of (name_of (decode s)) (x.count + y.count) ++ rest
  image-is = rw (rest-is) (rw (p.read, q.read, encode-entries t (stable t u), stable-length) refl)

  head-size : length (head_of (name_of (decode s)) (x.count + y.count)) ≡ x.at
  head-size = rw (p.read, ← stable-length) (head-length t (stable t u) ∙ sym p.start)

  -- LAW: how long the result is
  pub image-size : length (stable_image (decode s) (decode v)) ≡ x.at + length rest
  image-size = ap length image-is ∙ length-append (head_of (name_of (decode s)) (x.count + y.count)) rest ∙ ap (λ (d : ℕ). d + length rest) head-size

  -- LAW: an image has few entries
  pub image-few : x.count + y.count ≤ 2340
  image-few =
      let a : length (stable_image (decode s) (decode v)) ≡ x.at + length rest = image-size in
      let b : length rest ≡ length (put_all put_entry (stable t u)) = ap length rest-is in
      let c : 28 * length (stable t u) ≤ length (put_all put_entry (stable t u)) = many-bytes (stable t u) in
      let d : length (stable t u) ≡ x.count + y.count = stable-length in
      let e : x.at ≡ 14 + length t.name = p.start in
      omega arith

  -- LAW: the head written, and the entries laid after it, are the result
  pub image-written : (before headed after : List ℕ) → headed ≡ head_of (name_of (decode s)) (x.count + y.count) ++ drop x.at before → after ≡ laid headed x.at rest
      → after ≡ stable_over (decode s) (decode v) before
  image-written before headed after h g =
      let k = head_of (name_of (decode s)) (x.count + y.count) in
      let a : take x.at (k ++ drop x.at before) ≡ k = take_at k (drop x.at before) x.at head-size in
      let b : drop (x.at + length rest) (k ++ drop x.at before) ≡ drop (x.at + length rest) before =
      sym (drop-drop (length rest) x.at (k ++ drop x.at before)) ∙ ap (drop (length rest)) (drop_at k (drop x.at before) x.at head-size) ∙ drop-drop (length rest) x.at before in
      g ∙ rw (h, a, b, image-size, image-is) refl

-- ---- the keys of two images in order, in two parts of one array
-- two lists put in at the front of an array
two_parts : (k₁ k₂ rest : List Key) (n m : ℕ) → length k₁ ≡ n → length k₂ ≡ m
    → (take n (put_mid n (n + m - n) (k₁ ++ rest) k₂) ≡ k₁) × (take (n + m - n) (drop n (put_mid n (n + m - n) (k₁ ++ rest) k₂)) ≡ k₂)
two_parts k₁ k₂ rest n m p q =
    let z : n + m - n ≡ m = omega arith in
    let a : take n (k₁ ++ rest) ≡ k₁ = take_at k₁ rest n p in
    let post : List Key = drop m (drop n (k₁ ++ rest)) in
    (rw (z, a) (take_at k₁ (k₂ ++ post) n p), rw (z, a, drop_at k₁ (k₂ ++ post) n p) (take_at k₂ post m q))

-- an image has as many keys as entries, and they fit
pub many-keys : (a : Accepted) → length (keys_of a.image.now a.extent) ≡ a.extent.count
many-keys a =
    let h = holds-of a in
    length-order rank (keys_from a.extent.at (entries_of (decode a.image.now)))
    ∙ length-keys a.extent.at (entries_of (decode a.image.now))
    ∙ ap length (holds-entries _ _ h)
    ∙ sym h.count

pub keys-fitting : (a : Accepted) → Every Fitting (keys_from a.extent.at (entries_of (decode a.image.now)))
keys-fitting a =
    let p = holds-of a in
    let x : a.extent.at ≡ 14 + length p.table.name = p.start in
    let y : a.extent.end ≤ length a.image.now = p.end in
    let z : length a.image.now ≤ 65536 = p.short in
    let w : a.extent.end ≡ a.extent.at + total entry_size (entries_of (decode a.image.now)) = holds-end _ _ p ∙ ap (λ (l : List PitchEntry). a.extent.at + total entry_size l) (holds-list _ _ p) in
    keys-fit a.extent.at (entries_of (decode a.image.now)) (omega arith) (omega arith)

module _ (a b : Accepted) (room k₁ k₂ : List Key) (h : k₁ ≡ keys_of a.image.now a.extent) (g : k₂ ≡ keys_of b.image.now b.extent) where
  abbrev n : ℕ
  n = a.extent.count

  abbrev m : ℕ
  m = b.extent.count

  abbrev keys : List Key
  keys = put_mid n (n + m - n) (k₁ ++ drop n room) k₂

  parts : (take n keys ≡ k₁) × (take (n + m - n) (drop n keys) ≡ k₂)
  parts = two_parts k₁ k₂ (drop n room) n m (ap length h ∙ many-keys a) (ap length g ∙ many-keys b)

  pub first-part : take n keys ≡ keys_of a.image.now a.extent
  first-part = parts.0 ∙ h

  pub second-part : take (n + m - n) (drop n keys) ≡ keys_of b.image.now b.extent
  second-part = parts.1 ∙ g
