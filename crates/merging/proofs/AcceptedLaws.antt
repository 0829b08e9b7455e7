-- The reader accepts what a merge writes: entries that were read, in any order, under a name that was read, are read again. Assumes
-- nothing but that the images' bytes are below 256.
use Prim.Native.Nat.{ℕ, zero, suc, ◌+◌, ◌-◌, ◌*◌, ◌/◌, ◌%◌, ◌≤◌, ◌<◌, min}
use mathlib.Core.Path.{◌≡◌, refl, ap, sym, ◌∙◌}
use mathlib.Core.List.{List, [], ◌∷◌, ◌++◌, append_assoc, append-nil}
use native.Mathlib.Omega.{arith}
use lib.ListN.{length, get_or, take, drop, length-append, length-drop, length-take, get_or-append}
use lib.Seq.{length-take-le, get_or-take, get_or-drop, get_or-append-add}
use Rattle.wire.specs.Parse.{ok, then, many}
use Rattle.wire.specs.Cursor.{le16, le32, u32}
use Rattle.wire.proofs.Found.{u32-got, u32-is}
use Rattle.wire.proofs.Many.{went}
use Rattle.table.specs.Table.{PitchEntry, CoeffTable}
use Rattle.table.specs.Image.{text, entry, entries, magic}
use Rattle.table.specs.Span.{agreed, consistent}
use Rattle.table.specs.Decode.{decode}
use Rattle.table.specs.Encode.{put_u16, put_u32, put_str, put_all, put_entry, encode}
use Rattle.table.proofs.Spelled.{piece, spelled-entry, spelled-text, header-parts, table-parts}
use Rattle.table.proofs.SizeLaws.{text-end}
use Rattle.table.proofs.RoundTrip.{Bytes, header-one, decode-from}
use Rattle.merging.specs.Order.{Every}
use Rattle.merging.specs.inner.Image.{head_of}
use Rattle.merging.specs.Merge.{with_entries}
use Rattle.table.proofs.Shift.{shift-text, shift-entry, entry-index}

-- an entry that was read somewhere
pub record Readable (e : PitchEntry) : Type 0 where
  pub image : List ℕ
  pub byte : Bytes image
  pub index : ℕ
  pub at : ℕ
  pub end : ℕ
  pub reads : entry index image at ≡ ok e end
  pub room : end ≤ length image

-- a piece of one list stands in another
module _ (s : List ℕ) (at e : ℕ) (l pre post : List ℕ) (h : l ≡ piece s at e) where
  stands : (i : ℕ) → i < length l → get_or s (at + i) 0 ≡ get_or (pre ++ (l ++ post)) (length pre + i) 0
  stands i g =
      let n : length l ≡ min (e - at) (length (drop at s)) = ap length h ∙ length-take (e - at) (drop at s) in
      let k : i < e - at = omega arith in
      sym (get_or-append-add pre (l ++ post) i 0
      ∙ get_or-append l post 0 i g
      ∙ ap (λ (x : List ℕ). get_or x i 0) h
      ∙ get_or-take (e - at) (drop at s) i 0 k
      ∙ get_or-drop at s i 0)

  piece-length : at ≤ e → e ≤ length s → length l ≡ e - at
  piece-length o r = ap length h ∙ length-take-le (e - at) (drop at s) (simp length-drop (omega arith))

room_for : (pre l post : List ℕ) → length pre + length l ≤ length (pre ++ (l ++ post))
room_for pre l post = simp (length-append) (omega arith)

-- LAW: such an entry's bytes are read as it, wherever they stand
pub read-put : (e : PitchEntry) → Readable e → (pre post : List ℕ) (j : ℕ) → entry j (pre ++ (put_entry e ++ post)) (length pre) ≡ ok e (length pre + length (put_entry e))
read-put e r pre post j =
    let s = r.image in
    let u = pre ++ (put_entry e ++ post) in
    let w = spelled-entry s r.byte r.index r.at r.end e r.reads in
    let x = shift-entry s u r.index r.at r.end e r.reads in
    let n : length (put_entry e) ≡ r.end - r.at = piece-length s r.at r.end (put_entry e) pre post w.bytes w.order r.room in
    let z : r.end ≡ r.at + x.size = x.end in
    let k : x.size ≡ length (put_entry e) = omega arith in
    let o : length pre + length (put_entry e) ≤ length u = room_for pre (put_entry e) post in
    entry-index r.index j u (length pre) (length pre + length (put_entry e)) e
    (x.again (length pre) (λ i v. stands s r.at r.end (put_entry e) pre post w.bytes i (omega arith)) (omega arith)
    ∙ ap (λ (d : ℕ). ok e (length pre + d)) k)

pub read_all : (es : List PitchEntry) → Every Readable es → (pre post : List ℕ) (j : ℕ)
    → many entry j (length es) (pre ++ (put_all put_entry es ++ post)) (length pre) ≡ ok es (length pre + length (put_all put_entry es))
unfolding many put_all Every
read_all [] h pre post j = let z : length pre ≡ length pre + 0 = omega arith in ap (λ (d : ℕ). ok [] d) z
read_all (e ∷ es) h pre post j =
    let rest = put_all put_entry es in
    let a : (put_entry e ++ rest) ++ post ≡ put_entry e ++ (rest ++ post) = append_assoc (put_entry e) rest post in
    let b : pre ++ (put_entry e ++ (rest ++ post)) ≡ (pre ++ put_entry e) ++ (rest ++ post) = sym (append_assoc pre (put_entry e) (rest ++ post)) in
    let n : length (pre ++ put_entry e) ≡ length pre + length (put_entry e) = length-append pre (put_entry e) in
    let m : length (put_entry e ++ rest) ≡ length (put_entry e) + length rest = length-append (put_entry e) rest in
    let p = read-put e h.0 pre (rest ++ post) j in
    let q : many entry (j + 1) (length es) (pre ++ (put_entry e ++ (rest ++ post))) (length pre + length (put_entry e)) ≡ ok es (length pre + length (put_entry e) + length rest) =
    rw (b, ← n) (read_all es h.1 (pre ++ put_entry e) post (j + 1)) in
    let z : length pre + length (put_entry e) + length rest ≡ length pre + length (put_entry e ++ rest) = omega arith in
    rw (a, p, q) (ap (λ (d : ℕ). ok (e ∷ es) d) z)

entries-put : (es : List PitchEntry) → Every Readable es → (pre : List ℕ) → many entry 0 (length es) (pre ++ put_all put_entry es) (length pre) ≡ ok es (length (pre ++ put_all put_entry es))
entries-put es h pre =
    ap (λ (u : List ℕ). many entry 0 (length es) u (length pre)) (ap (λ (x : List ℕ). pre ++ x) (sym (append-nil (put_all put_entry es))))
    ∙ read_all es h pre [] 0
    ∙ ap (λ (d : ℕ). ok es d) (sym (length-append pre (put_all put_entry es)))

-- ---- the entries of an accepted image
readable-many : (s : List ℕ) → Bytes s → (n i at e : ℕ) (es : List PitchEntry) → at ≤ length s → many entry i n s at ≡ ok es e → Every Readable es
unfolding many Every
readable-many s byte zero i at e es o h = let q : es ≡ [] = cc in rw q tt
readable-many s byte (suc n) i at e es o h =
    went (entry i s at) (λ a next. then (many entry (i + 1) n s next) (λ l e. ok (a ∷ l) e)) es e h λ a m g h₁.
    went (many entry (i + 1) n s m) (λ l e. ok (a ∷ l) e) es e h₁ λ k x g₂ h₂.
    let q : es ≡ a ∷ k = cc in
    let w = spelled-entry s byte i at m a g in
    let r : m ≤ length s = w.inside o in
    rw q (record { image = s; byte = byte; index = i; at = at; end = m; reads = g; room = r }, readable-many s byte n (i + 1) m x k r g₂)

pub readable-entries : (s : List ℕ) → Bytes s → (t : CoeffTable) (e : ℕ) → decode s ≡ ok t e → Every Readable t.entries
readable-entries s byte t e h =
    table-parts s t e h λ d at es p.
    header-parts s d at p.head λ m q.
    let w = spelled-text s byte 6 m d.name q.name in
    let v = u32-is s m d.count at q.count in
    let there : m + 4 ≤ length s = v.there in
    let end : at ≡ m + 4 = v.end in
    rw p.whole (readable-many s byte d.count 0 at e es (omega arith) p.rest)

-- ---- the header
digits_value : (n : ℕ) → n < 4294967296 → n % 256 + 256 * (n / 256 % 256) + 65536 * (n / 65536 % 256) + 16777216 * (n / 16777216 % 256) ≡ n
digits_value n h =
    let a : n / 65536 ≡ n / 256 / 256 = omega arith in
    let b : n / 16777216 ≡ n / 65536 / 256 = omega arith in
    let c : n ≡ 256 * (n / 256) + n % 256 = omega arith in
    let d : n / 256 ≡ 256 * (n / 65536) + n / 256 % 256 = omega arith in
    let e : n / 65536 ≡ 256 * (n / 16777216) + n / 65536 % 256 = omega arith in
    let f : n / 16777216 % 256 ≡ n / 16777216 = omega arith in
    omega arith

u32-put : (pre post : List ℕ) (n : ℕ) → n < 4294967296 → u32 (pre ++ (put_u32 n ++ post)) (length pre) ≡ ok n (length pre + 4)
u32-put pre post n h =
    let u = pre ++ (put_u32 n ++ post) in
    let x : length pre + 0 ≡ length pre = omega arith in
    let a : get_or u (length pre) 0 ≡ n % 256 = ap (λ (d : ℕ). get_or u d 0) (sym x) ∙ get_or-append-add pre (put_u32 n ++ post) 0 0 in
    let b : get_or u (length pre + 1) 0 ≡ n / 256 % 256 = get_or-append-add pre (put_u32 n ++ post) 1 0 in
    let c : get_or u (length pre + 2) 0 ≡ n / 65536 % 256 = get_or-append-add pre (put_u32 n ++ post) 2 0 in
    let d : get_or u (length pre + 3) 0 ≡ n / 16777216 % 256 = get_or-append-add pre (put_u32 n ++ post) 3 0 in
    let v : le32 u (length pre) ≡ n = rw (a, b, c, d) (digits_value n h) in
    u32-got u (length pre) (room_for pre (put_u32 n) post) ∙ ap (λ (y : ℕ). ok y (length pre + 4)) v

-- the parts of what is written, one after the other
abbrev front : List ℕ
front = magic ++ put_u16 1

title-put : (s : List ℕ) → Bytes s → (m : ℕ) (l : List ℕ) → text s 6 ≡ ok l m → (post : List ℕ) → text (front ++ (put_str l ++ post)) 6 ≡ ok l (10 + length l)
title-put s byte m l h post =
    let u = front ++ (put_str l ++ post) in
    let w = spelled-text s byte 6 m l h in
    let x = shift-text s u 6 m l h in
    let a : m ≡ 6 + 4 + length l = text-end s 6 m l h in
    let b : m ≡ 6 + x.size = x.end in
    let c : length (put_str l) ≡ 4 + length l = omega arith in
    let r : 6 + length (put_str l) ≤ length u = room_for front (put_str l) post in
    let e : 6 + x.size ≡ 10 + length l = omega arith in
    x.again 6 (λ i v. stands s 6 m (put_str l) front post w.bytes i (omega arith)) (omega arith) ∙ ap (λ (d : ℕ). ok l d) e

encode-mark : (t : CoeffTable) (es : List PitchEntry) → take 4 (encode (with_entries t es)) ≡ magic
unfolding encode
encode-mark t es = refl

encode-version : (t : CoeffTable) (es : List PitchEntry) → le16 (encode (with_entries t es)) 4 ≡ 1
unfolding encode
encode-version t es = refl

module _ (t : CoeffTable) (es : List PitchEntry) where
  abbrev name : List ℕ
  name = t.name

  abbrev rest : List ℕ
  rest = put_all put_entry es

  pub encode-is : encode (with_entries t es) ≡ front ++ (put_str name ++ (put_u32 (length es) ++ rest))
  unfolding encode
  encode-is = refl

  encode-count : encode (with_entries t es) ≡ (front ++ put_str name) ++ (put_u32 (length es) ++ rest)
  encode-count = encode-is ∙ sym (append_assoc front (put_str name) (put_u32 (length es) ++ rest))

  pub encode-entries : encode (with_entries t es) ≡ head_of name (length es) ++ rest
  encode-entries = encode-count ∙ sym (append_assoc (front ++ put_str name) (put_u32 (length es)) rest)

  pub head-length : length (head_of name (length es)) ≡ 14 + length name
  head-length = simp length-append (omega arith)

  -- LAW: written with entries that were read and agree, a table is read as it was written, where its image is short enough
  module _ (s : List ℕ) (byte : Bytes s) (e : ℕ) (h : decode s ≡ ok t e) (all : Every Readable es) (agree : consistent es ≡ agreed) (short : length (encode (with_entries t es)) ≤ 65536) where
    few : (l : List PitchEntry) → length l ≤ length (put_all put_entry l)
    unfolding put_all put_entry
    few [] = omega arith
    few (a ∷ l) = let g = few l in simp length-append (omega arith)

    pub accepted-encode : decode (encode (with_entries t es)) ≡ ok (with_entries t es) (length (encode (with_entries t es)))
    accepted-encode =
        let u = encode (with_entries t es) in
        table-parts s t e h λ d at fs p.
        header-parts s d at p.head λ m q.
        let same : d.name ≡ name = ap (λ (x : CoeffTable). x.name) (sym p.whole) in
        let z : length u ≡ length ((front ++ put_str name ++ put_u32 (length es)) ++ rest) = ap length encode-entries in
        let y : length ((front ++ put_str name ++ put_u32 (length es)) ++ rest) ≡ 14 + length name + length rest = length-append (front ++ put_str name ++ put_u32 (length es)) rest ∙ ap (λ (n : ℕ). n + length rest) head-length in
        let f : length es ≤ length rest = few es in
        let title : text u 6 ≡ ok name (10 + length name) = rw (encode-is, ← same) (title-put s byte m d.name q.name (put_u32 (length es) ++ rest)) in
        let count : u32 u (10 + length name) ≡ ok (length es) (14 + length name) =
        let k : length (front ++ put_str name) ≡ 10 + length name = omega arith in
        let j : length (front ++ put_str name) + 4 ≡ 14 + length name = omega arith in
        rw (encode-count, ← k) (u32-put (front ++ put_str name) rest (length es) (omega arith) ∙ ap (λ (x : ℕ). ok (length es) x) j) in
        let head = header-one u name (length es) (10 + length name) (14 + length name) (omega arith) (encode-mark t es) (encode-version t es) title count in
        let body : entries (length es) u (14 + length name) ≡ ok es (length u) =
        rw (encode-entries, ← head-length) (entries-put es all (front ++ put_str name ++ put_u32 (length es))) in
        decode-from u (record { version = 1; name = name; count = length es }) (14 + length name) (length u) es short head body (rw agree refl)
