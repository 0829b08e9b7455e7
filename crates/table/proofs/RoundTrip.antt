-- Reading a rewritten image, and rewriting it again. Assumes nothing but that an image's bytes are below 256.
use Prim.Native.Nat.{ℕ, suc, ◌+◌, ◌-◌, ◌≤◌, ◌<◌}
use mathlib.Core.Path.{◌≡◌, refl, ap, sym, ◌∙◌}
use mathlib.Core.List.{List, [], ◌∷◌, ◌++◌}
use mathlib.Core.Bool.{true}
use native.Mathlib.Omega.{arith}
use lib.ListN.{length, get_or, take, drop, length-drop, take-append-drop}
use lib.Seq.{length-take-le, get_or-take, get_or-drop, get_or-append-add, take_at as take_front, drop_at, drop-cons, take_all}
use borrow.Author.Tests.{le-leb, eq-eqb}
use Rattle.wire.specs.Parse.{ok}
use Rattle.wire.specs.Cursor.{le16, take_at, u16, u32}
use Rattle.table.specs.Table.{PitchEntry, CoeffTable, same}
use Rattle.table.specs.Image.{text, entry, entries, magic, Header, header}
use Rattle.table.specs.Span.{consistent, ruled}
use Rattle.table.specs.Decode.{decode}
use Rattle.table.specs.Encode.{encode}
use Rattle.table.specs.Rewrite.{rewriting, rewritten}
use Rattle.table.proofs.Spelled.{piece, Again, read_again, header-parts, table-parts}
use Rattle.table.proofs.Rewritten.{length-again}
use Rattle.table.proofs.Shift.{AlikeTo, stays, shift-u32, shift-many, shift-text, shift-entry}

abbrev pub Bytes : List ℕ → Type 0
Bytes s = (i : ℕ) → get_or s i 0 < 256

-- the table as version 1
abbrev pub version_one : CoeffTable → CoeffTable
version_one t = record { version = 1; name = t.name; entries = t.entries }

same_refl : (l : List ℕ) → same l l ≡ true
unfolding same
same_refl [] = refl
same_refl (a ∷ l) = rw (eq-eqb a a refl) (same_refl l)

-- a header of version 1, from its parts
pub header-one : (u : List ℕ) (name : List ℕ) (count m e : ℕ) → 6 ≤ length u → take 4 u ≡ magic → le16 u 4 ≡ 1 → text u 6 ≡ ok name m → u32 u m ≡ ok count e
    → header u 0 ≡ ok (record { version = 1; name = name; count = count }) e
unfolding header take_at u16
header-one u name count m e room mark one t n =
    rw (le-leb 4 (length u) (omega arith), mark, same_refl magic, le-leb 6 (length u) room, one, t, n) refl

-- what is written for an accepted image, beside it
module _ (s : List ℕ) (t : CoeffTable) (e : ℕ) (w : Again s t e) where
  abbrev out : List ℕ
  out = encode t

  four : length (take 4 s) ≡ 4
  four = let some : 6 ≤ e = w.some in let inside : e ≤ length s = w.inside in length-take-le 4 s (omega arith)

  out_at : (i : ℕ) → get_or out (4 + i) 0 ≡ get_or (1 ∷ 0 ∷ piece s 6 e) i 0
  out_at i =
      let k : 4 + i ≡ length (take 4 s) + i = ap (λ (n : ℕ). n + i) (sym four) in
      rw (w.bytes, k) (get_or-append-add (take 4 s) (1 ∷ 0 ∷ piece s 6 e) i 0)

  out-mark : take 4 out ≡ take 4 s
  out-mark = rw w.bytes (take_front (take 4 s) (1 ∷ 0 ∷ piece s 6 e) 4 four)

  out-version : le16 out 4 ≡ 1
  out-version =
      let a : get_or out (4 + 0) 0 ≡ 1 = out_at 0 in
      let b : get_or out (4 + 1) 0 ≡ 0 = out_at 1 in
      omega arith

  out-alike : AlikeTo s out 6 e
  out-alike i p q =
      let k : i ≡ 4 + suc (suc (i - 6)) = omega arith in
      let j : 6 + (i - 6) ≡ i = omega arith in
      let x : get_or out i 0 ≡ get_or (piece s 6 e) (i - 6) 0 = ap (λ (n : ℕ). get_or out n 0) k ∙ out_at (suc (suc (i - 6))) in
      let y : get_or (piece s 6 e) (i - 6) 0 ≡ get_or s i 0 = get_or-take (e - 6) (drop 6 s) (i - 6) 0 (omega arith) ∙ get_or-drop 6 s (i - 6) 0 ∙ ap (λ (n : ℕ). get_or s n 0) j in
      sym (x ∙ y)

  out-header : (d : Header) (at : ℕ) → header s 0 ≡ ok d at → at ≤ e → (header out 0 ≡ ok (record { version = 1; name = d.name; count = d.count }) at) × (6 ≤ at)
  out-header d at h l =
      header-parts s d at h λ m p.
      let size : length out ≡ e = length-again s t e w in
      let some : 6 ≤ e = w.some in
      let x = stays s out text (shift-text s out) 6 m d.name p.name in
      let y = stays s out u32 (shift-u32 s out) m at d.count p.count in
      let o : 6 ≤ m = x.order in
      let r : m ≤ at = y.order in
      let mark : take 4 out ≡ magic = out-mark ∙ sym p.mark in (
        header-one out d.name d.count m at (omega arith) mark out-version
            (x.again (λ i v z. out-alike i v (omega arith)) (omega arith))
            (y.again (λ i v z. out-alike i (omega arith) (omega arith)) (omega arith)),
        omega arith,
      )

pub decode-from : (u : List ℕ) (d : Header) (at e : ℕ) (es : List PitchEntry) → length u ≤ 65536 → header u 0 ≡ ok d at → entries d.count u at ≡ ok es e → ruled (consistent es) e ≡ ok true e
    → decode u ≡ ok (record { version = d.version; name = d.name; entries = es }) e
unfolding decode
decode-from u d at e es short head rest ruling = rw (le-leb (length u) 65536 short, head, rest, ruling) refl

-- the rewritten image is read as the same table, bit for bit, with version 1, and ends where it ends
pub decode-encode : (s : List ℕ) → Bytes s → (t : CoeffTable) (e : ℕ) → decode s ≡ ok t e → (decode (encode t) ≡ ok (version_one t) e) × (length (encode t) ≡ e)
decode-encode s byte t e h =
    let w = read_again s byte t e h in
    let size : length (encode t) ≡ e = length-again s t e w in
    let inside : e ≤ length s = w.inside in
    table-parts s t e h λ d at es p.
    let short : length s ≤ 65536 = p.short in
    let x = stays s (encode t) (entries d.count) (shift-many s (encode t) entry (shift-entry s (encode t)) d.count 0) at e es p.rest in
    let o : at ≤ e = x.order in
    let f = out-header s t e w d at p.head o in
    let six : 6 ≤ at = f.1 in
    let r = x.again (λ i v z. out-alike s t e w i (omega arith) z) (omega arith) in
    let q : record { version = 1; name = d.name; entries = es } ≡ version_one t = ap version_one (sym p.whole) in
    (decode-from (encode t) (record { version = 1; name = d.name; count = d.count }) at e es (omega arith) f.0 r p.ruling ∙ ap (λ (y : CoeffTable). ok y e) q, size)

-- a target that holds it gets those bytes, and keeps its own beyond them
module _ (s : List ℕ) (byte : Bytes s) (t : CoeffTable) (e : ℕ) (h : decode s ≡ ok t e) (target : List ℕ) (fits : e ≤ length target) where
  stored : rewritten (decode s) target ≡ encode t ++ drop (length (encode t)) target
  stored =
      let size : length (encode t) ≡ e = (decode-encode s byte t e h).1 in
      rw (h, le-leb (length (encode t)) (length target) (omega arith)) refl

  pub target-front : take e (rewritten (decode s) target) ≡ encode t
  target-front = rw stored (take_front (encode t) (drop (length (encode t)) target) e (decode-encode s byte t e h).1)

  pub target-beyond : drop e (rewritten (decode s) target) ≡ drop e target
  target-beyond =
      let size : length (encode t) ≡ e = (decode-encode s byte t e h).1 in
      rw stored (drop_at (encode t) (drop (length (encode t)) target) e size ∙ ap (λ (n : ℕ). drop n target) size)

-- rewriting the rewritten image: the same answer, and the same bytes in every target
pub rewrite-twice : (s : List ℕ) → Bytes s → (t : CoeffTable) (e : ℕ) → decode s ≡ ok t e
    → ((n : ℕ) → rewriting (decode (encode t)) n ≡ rewriting (decode s) n) × ((target : List ℕ) → rewritten (decode (encode t)) target ≡ rewritten (decode s) target)
unfolding encode
rewrite-twice s byte t e h =
    let x = (decode-encode s byte t e h).0 in
    (λ n. rw (h, x) refl, λ target. rw (h, x) refl)

-- an image of version 1 with nothing after its last entry is rewritten to itself
pub rewrite-own : (s : List ℕ) → Bytes s → (t : CoeffTable) → decode s ≡ ok t (length s) → t.version ≡ 1 → encode t ≡ s
rewrite-own s byte t h one =
    let w = read_again s byte t (length s) h in
    let some : 6 ≤ length s = w.some in
    table-parts s t (length s) h λ d at es p.
    header-parts s d at p.head λ m q.
    let v : t.version ≡ d.version = ap (λ (x : CoeffTable). x.version) p.whole in
    let u : le16 s 4 ≡ 1 = sym q.version ∙ sym v ∙ one in
    let a : get_or s 4 0 < 256 = byte 4 in
    let b : get_or s 4 0 ≡ 1 = omega arith in
    let c : get_or s 5 0 ≡ 0 = omega arith in
    let whole : piece s 6 (length s) ≡ drop 6 s = take_all (length s - 6) (drop 6 s) (simp length-drop (omega arith)) in
    let back : drop 4 s ≡ 1 ∷ 0 ∷ drop 6 s = drop-cons s 4 0 (omega arith) ∙ ap (λ (x : ℕ). x ∷ drop 5 s) b ∙ ap (λ (l : List ℕ). 1 ∷ l) (drop-cons s 5 0 (omega arith) ∙ ap (λ (x : ℕ). x ∷ drop 6 s) c) in
    w.bytes ∙ ap (λ (l : List ℕ). take 4 s ++ (1 ∷ 0 ∷ l)) whole ∙ ap (λ (l : List ℕ). take 4 s ++ l) (sym back) ∙ take-append-drop 4 s

-- two accepted images are rewritten to the same bytes exactly when they hold the same name and entries
module _ (s u : List ℕ) (bs : Bytes s) (bu : Bytes u) (t v : CoeffTable) (e f : ℕ) (h : decode s ≡ ok t e) (g : decode u ≡ ok v f) where
  tables-alike : encode t ≡ encode v → version_one t ≡ version_one v
  tables-alike k =
      let x = (decode-encode s bs t e h).0 in
      let y = (decode-encode u bu v f g).0 in
      let z : ok (version_one t) e ≡ ok (version_one v) f = sym x ∙ ap decode k ∙ y in
      cc

  pub rewritten-same : encode t ≡ encode v → (t.name ≡ v.name) × (t.entries ≡ v.entries)
  rewritten-same k =
      let z = tables-alike k in
      (ap (λ (x : CoeffTable). x.name) z, ap (λ (x : CoeffTable). x.entries) z)

  pub same-rewritten : (t.name ≡ v.name) × (t.entries ≡ v.entries) → encode t ≡ encode v
  unfolding encode
  same-rewritten k = rw (k.0, k.1) refl
