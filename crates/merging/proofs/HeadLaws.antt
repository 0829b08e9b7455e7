-- Laws of what stands before the entries, as the code writes it. Assumes nothing but that an image's bytes are below 256.
use Prim.Native.Nat.{ℕ, ◌+◌, ◌-◌, ◌≤◌}
use mathlib.Core.Path.{◌≡◌, refl, ap, sym, ◌∙◌}
use mathlib.Core.List.{List, [], ◌∷◌, ◌++◌, append_assoc}
use native.Mathlib.Omega.{arith}
use lib.ListN.{length, get_or, take, drop, set}
use lib.Seq.{take_at, drop_at, drop-cons, drop-drop, take-add}
use borrow.Rule.Slice.PartMut.{put_mid}
use Rattle.std.specs.Int.{w32, to_le_bytes}
use Rattle.wire.specs.Parse.{Parsed, ok}
use Rattle.wire.specs.Cursor.{part, le32, string}
use Rattle.wire.proofs.Found.{u32-is, string-is}
use Rattle.wire.proofs.Many.{went}
use Rattle.table.specs.Table.{CoeffTable}
use Rattle.table.specs.Image.{magic}
use Rattle.table.specs.Decode.{decode, name_of}
use Rattle.table.specs.Encode.{put_u16, put_u32, put_str}
use Rattle.table.proofs.SizeLaws.{text-end}
use Rattle.table.proofs.Spelled.{spelled-text, header-parts, table-parts}
use Rattle.table.proofs.RoundTrip.{Bytes}
use Rattle.table.specs.Answer.{counts}
use Rattle.table.proofs.ReadLaws.{accepted-table}
use Rattle.merging.specs.declared.extent.Extent.{Extent}
use Rattle.merging.specs.inner.Extent.{AcceptedAt}
use Rattle.merging.specs.inner.Image.{head_of}

-- the beginning of an accepted image, up to its entry count
pub record Begins (s : List ℕ) (name : List ℕ) : Type 0 where
  pub room : 14 + length name ≤ length s
  pub fourth : ℕ
  pub fifth : ℕ
  pub bytes : take (10 + length name) s ≡ magic ++ (fourth ∷ fifth ∷ []) ++ put_str name

pub begins : (s : List ℕ) → Bytes s → (t : CoeffTable) (e : ℕ) → decode s ≡ ok t e → Begins s t.name
begins s byte t e h =
    table-parts s t e h λ d at es p.
    header-parts s d at p.head λ m q.
    let same : d.name ≡ t.name = ap (λ (x : CoeffTable). x.name) (sym p.whole) in
    let w = spelled-text s byte 6 m d.name q.name in
    let n : m ≡ 6 + 4 + length d.name = text-end s 6 m d.name q.name in
    let v = u32-is s m d.count at q.count in
    let there : m + 4 ≤ length s = v.there in
    let size : length d.name ≡ length t.name = ap length same in
    let a : 10 + length t.name ≡ 4 + (2 + (m - 6)) = omega arith in
    let b : take 2 (drop 4 s) ≡ get_or s 4 0 ∷ get_or s 5 0 ∷ [] = rw (drop-cons s 4 0 (omega arith), drop-cons s 5 0 (omega arith)) refl in
    record {
      room = omega arith;
      fourth = get_or s 4 0;
      fifth = get_or s 5 0;
      bytes =
          ap (λ (x : ℕ). take x s) a
          ∙ take-add 4 (2 + (m - 6)) s
          ∙ ap (λ (x : List ℕ). take 4 s ++ x) (take-add 2 (m - 6) (drop 4 s) ∙ ap (λ (x : List ℕ). x ++ take (m - 6) (drop 2 (drop 4 s))) b)
          ∙ ap (λ (x : List ℕ). x ++ ((get_or s 4 0 ∷ get_or s 5 0 ∷ []) ++ take (m - 6) (drop 2 (drop 4 s)))) (sym q.mark)
          ∙ ap (λ (x : List ℕ). magic ++ ((get_or s 4 0 ∷ get_or s 5 0 ∷ []) ++ x)) (ap (take (m - 6)) (drop-drop 2 4 s) ∙ sym w.bytes ∙ ap put_str same);
    }

-- the beginning copied, the version set, and the entry count put in after it
pub head-written : (s name before : List ℕ) (at n : ℕ) → Begins s name → at ≡ 14 + length name → at ≤ length before
    → (start four : List ℕ) → start ≡ take (at - 4) s → four ≡ to_le_bytes w32 n
    → put_mid (at - 4) (at - 4 + 4 - (at - 4)) (set (set (start ++ drop (at - 4) before) 4 1) 5 0) four ≡ head_of name n ++ drop at before
head-written s name before at n b e room start four h g =
    let m : at - 4 ≡ 10 + length name = omega arith in
    let k : at - 4 + 4 - (at - 4) ≡ 4 = omega arith in
    let z : List ℕ = magic ++ put_u16 1 ++ put_str name in
    let w : length z ≡ 10 + length name = omega arith in
    let o : 10 + length name + 4 ≡ at = omega arith in
    let c : start ≡ magic ++ (b.fourth ∷ b.fifth ∷ []) ++ put_str name = h ∙ rw m b.bytes in
    let v : set (set (start ++ drop (at - 4) before) 4 1) 5 0 ≡ z ++ drop (10 + length name) before = rw (c, m) refl in
    let x : take (10 + length name) (z ++ drop (10 + length name) before) ≡ z = take_at z (drop (10 + length name) before) (10 + length name) w in
    let y : drop 4 (drop (10 + length name) (z ++ drop (10 + length name) before)) ≡ drop at before =
    ap (drop 4) (drop_at z (drop (10 + length name) before) (10 + length name) w)
    ∙ drop-drop 4 (10 + length name) before
    ∙ ap (λ (d : ℕ). drop d before) o in
    rw (k, v, m, x, y, g) (sym (append_assoc z (put_u32 n) (drop at before)))

pub begins-at : (s : List ℕ) → Bytes s → (x : Extent) → AcceptedAt s x → Begins s (name_of (decode s))
begins-at s byte x w = accepted-table s x.count x.end w.accepted λ t h l. rw h (begins s byte t x.end h)

-- where the entries start, by the length of the name as it stands in the image
name-length : (s : List ℕ) (t : CoeffTable) (e : ℕ) → decode s ≡ ok t e → (10 ≤ length s) × (le32 s 6 ≡ length t.name)
name-length s t e h =
    table-parts s t e h λ d at es p.
    header-parts s d at p.head λ m q.
    went (string s 6) (λ a next. ok (part s a.start a.len) next) d.name m q.name λ a n g k.
    let i = string-is s 6 n a g in
    let x : n ≡ m = cc in
    let c : a.len ≡ le32 s 6 = i.size in
    let o : a.start ≡ 6 + 4 = i.start in
    let r : a.start + a.len ≤ length s = i.there in
    let y : n ≡ a.start + a.len = i.end in
    let z : m ≡ 6 + 4 + length d.name = text-end s 6 m d.name q.name in
    let same : length d.name ≡ length t.name = ap (λ (x : CoeffTable). length x.name) (sym p.whole) in
    (omega arith, omega arith)

pub start-there : (s : List ℕ) (n e : ℕ) → counts (decode s) ≡ ok n e → 6 + 4 ≤ length s
start-there s n e h = accepted-table s n e h λ t k l. (name-length s t e k).0

pub start-read : (s : List ℕ) (n e : ℕ) → counts (decode s) ≡ ok n e → le32 s 6 ≡ length (name_of (decode s))
start-read s n e h = accepted-table s n e h λ t k l. (name-length s t e k).1 ∙ sym (ap (λ (q : Parsed CoeffTable). length (name_of q)) k)
