-- Laws of entries held as views: keeping one more, those of an accepted image, and the entries that they lead to. Assumes nothing.
use Prim.Native.Nat.{ℕ, zero, suc, ◌+◌, ◌-◌, ◌≤◌, ◌<◌}
use mathlib.Core.Path.{◌≡◌, refl, ap, sym, ◌∙◌}
use mathlib.Core.List.{List, [], ◌∷◌, ◌++◌, append-nil, append_assoc}
use native.Mathlib.Omega.{arith}
use lib.ListN.{length, take, set, replicate, length-append}
use lib.Dec.{leb}
use lib.Seq.{set-append_seam, set_out}
use Rattle.wire.specs.Parse.{Refusal, refusal, ok, refused, asked, then, many, standing}
use Rattle.wire.proofs.Many.{went, asked-ok, many-length, stand-go, stand-no, stand-end}
use Rattle.std.specs.Prelude.{map}
use Rattle.table.specs.declared.entry.EntryView.{EntryView}
use Rattle.table.specs.Table.{CoeffTable, PitchEntry}
use Rattle.table.specs.Size.{entry_size}
use Rattle.table.specs.Image.{Header, header, entry, entries}
use Rattle.table.specs.Span.{consistent, ruled}
use Rattle.table.specs.Decode.{decode}
use Rattle.table.specs.View.{entry_at, view_of}
use Rattle.table.specs.inner.Entry.{entry_list}
use Rattle.table.specs.inner.Views.{put_views}
use Rattle.table.specs.Views.{no_view, views_from, views_of}
use Rattle.table.specs.Answer.{counts}
use Rattle.table.proofs.SizeLaws.{entry-is, entry-end}
use Rattle.table.proofs.HeaderLaws.{header-end}
use Rattle.table.proofs.ReadLaws.{read_table}

-- ---- the loop that keeps them
put-past : (views : List EntryView) (i at : ℕ) (es : List PitchEntry) → length views ≤ i → put_views views i at es ≡ views
unfolding put_views
put-past views i at [] h = refl
put-past views i at (e ∷ es) h = rw (set_out views i (view_of at e) h) (put-past views (i + 1) (at + entry_size e) es (omega arith))

put-from : (k : ℕ) (before : List EntryView) (at : ℕ) (es : List PitchEntry)
    → put_views (before ++ replicate k no_view) (length before) at es ≡ before ++ views_from k at es
unfolding put_views views_from
put-from k before at [] = refl
put-from zero before at (e ∷ es) =
    rw (append-nil before, set_out before (length before) (view_of at e) (omega arith)) (put-past before (length before + 1) (at + entry_size e) es (omega arith))
put-from (suc k) before at (e ∷ es) =
    let v = view_of at e in
    let l : length (before ++ (v ∷ [])) ≡ length before + 1 = length-append before (v ∷ []) in
    let a : (before ++ (v ∷ [])) ++ replicate k no_view ≡ before ++ (v ∷ replicate k no_view) = append_assoc before (v ∷ []) (replicate k no_view) in
    let b : (before ++ (v ∷ [])) ++ views_from k (at + entry_size e) es ≡ before ++ (v ∷ views_from k (at + entry_size e) es) = append_assoc before (v ∷ []) (views_from k (at + entry_size e) es) in
    rw (set-append_seam before no_view (replicate k no_view) v, ← a, ← l, ← b) (put-from k (before ++ (v ∷ [])) (at + entry_size e) es)

-- it starts with views of nothing
pub put_first : (at : ℕ) (es : List PitchEntry) → put_views (replicate 16 no_view) 0 at es ≡ views_from 16 at es
put_first at es = put-from 16 [] at es

-- a turn, and the end
module _ (s : List ℕ) (views : List EntryView) (i n at : ℕ) where
  pub put-again : (v : EntryView) (next : ℕ) → i < n → entry i s at ≡ ok (entry_at s v) next → v ≡ view_of at (entry_at s v)
      → put_views views i at (standing entry i (n - i) s at) ≡ put_views (set views i v) (i + 1) next (standing entry (i + 1) (n - (i + 1)) s next)
  unfolding put_views
  put-again v next h g p =
      let rest = standing entry (i + 1) (n - (i + 1)) s next in
      ap (put_views views i at) (stand-go entry s i n at next (entry_at s v) h g)
      ∙ ap (λ (x : ℕ). put_views (set views i (view_of at (entry_at s v))) (i + 1) x rest) (sym (entry-end i s at next (entry_at s v) g))
      ∙ ap (λ (w : EntryView). put_views (set views i w) (i + 1) next rest) (sym p)

  pub put-no : (r : Refusal) → i < n → entry i s at ≡ refused r → put_views views i at (standing entry i (n - i) s at) ≡ views
  unfolding put_views
  put-no r h g = rw (stand-no entry s i n at r h g) refl

  pub put-end : n ≤ i → put_views views i at (standing entry i (n - i) s at) ≡ views
  unfolding put_views
  put-end h = rw (stand-end entry s i n at h) refl

-- LAW: the views kept of the entries after an image's header are the image's
pub kept-are : (s : List ℕ) (d : Header) (at n e : ℕ) → header s 0 ≡ ok d at → counts (decode s) ≡ ok n e
    → views_from 16 at (entry_list d.count s at) ≡ views_of (decode s)
kept-are s d at n e g h = rw (read_table s d at n e h g, ← header-end s at d g) refl

-- LAW: the views of an accepted image of at most 16 entries lead to its entries
lead-back : (s : List ℕ) (n i k at e : ℕ) (es : List PitchEntry) → n ≤ k → many entry i n s at ≡ ok es e → map (entry_at s) (take n (views_from k at es)) ≡ es
unfolding many views_from
lead-back s zero i k at e es h g = let q : es ≡ [] = cc in rw q refl
lead-back s (suc n) i zero at e es h g = absurd (omega arith)
lead-back s (suc n) i (suc k) at e es h g =
    went (entry i s at) (λ a next. then (many entry (i + 1) n s next) (λ l e. ok (a ∷ l) e)) es e g λ a m g₁ h₁.
    went (many entry (i + 1) n s m) (λ l e. ok (a ∷ l) e) es e h₁ λ l x g₂ h₂.
    let q : es ≡ a ∷ l = cc in
    let w = entry-is i s at m a g₁ in
    rw (q, w.view, ← w.end, lead-back s n (i + 1) k m x l (omega arith) g₂) refl

table-entries : {G : Type 0} (s : List ℕ) (t : CoeffTable) (e : ℕ) → decode s ≡ ok t e
    → ((x : ℕ) → entries (length t.entries) s (14 + length t.name) ≡ ok t.entries x → G) → G
unfolding decode
table-entries s t e g f =
    went (asked (leb (length s) 65536) 0 (refusal 1 0 0)) _ t e g λ x m₁ g₁ h₁.
    let a = asked-ok (leb (length s) 65536) 0 m₁ (refusal 1 0 0) x g₁ in
    went (header s m₁) _ t e h₁ λ d m₂ g₂ h₂.
    went (entries d.count s m₂) _ t e h₂ λ es m₃ g₃ h₃.
    went (ruled (consistent es) m₃) _ t e h₃ λ y m₄ g₄ h₄.
    let r : t ≡ record { version = d.version; name = d.name; entries = es } = cc in
    let p : m₂ ≡ 14 + length d.name = header-end s m₂ d (rw a.1 g₂) in
    f m₃ (rw (r, ← p, many-length entry s d.count 0 m₂ m₃ es g₃) g₃)

pub views-lead : (s : List ℕ) (t : CoeffTable) (e n : ℕ) → decode s ≡ ok t e → length t.entries ≡ n → n ≤ 16 → map (entry_at s) (take n (views_of (decode s))) ≡ t.entries
views-lead s t e n g l h = table-entries s t e g λ x w.
    rw (g, ← l) (lead-back s (length t.entries) 0 16 (14 + length t.name) x t.entries (omega arith) w)
