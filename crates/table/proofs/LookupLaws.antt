-- Laws of the entry with an index, for the walk to it. Assumes nothing.
use Prim.Native.Nat.{ℕ, suc, ◌+◌, ◌-◌, ◌<◌}
use mathlib.Core.Path.{◌≡◌, refl, ap, sym, ◌∙◌}
use mathlib.Core.List.{List, []}
use mathlib.Core.Option.{some, none}
use native.Mathlib.Omega.{arith}
use Rattle.wire.specs.Parse.{Parsed, ok, standing}
use Rattle.wire.proofs.Many.{stand-go}
use Rattle.table.specs.Table.{CoeffTable, PitchEntry}
use Rattle.table.specs.Image.{Header, header, entry}
use Rattle.table.specs.Decode.{decode}
use Rattle.table.specs.View.{view_of}
use Rattle.table.specs.inner.Entry.{entry_list}
use Rattle.table.specs.Answer.{counts}
use Rattle.table.specs.Lookup.{view_from, view_of_index}
use Rattle.table.proofs.SizeLaws.{entry-end}
use Rattle.table.proofs.HeaderLaws.{header-end}
use Rattle.table.proofs.ReadLaws.{read_table}

module _ (s : List ℕ) (i n at next : ℕ) (e : PitchEntry) (h : i < n) (g : entry i s at ≡ ok e next) where
  pub view-here : (index : ℕ) → i ≡ index → view_from at (standing entry i (n - i) s at) (index - i) ≡ some (view_of at e)
  unfolding view_from
  view-here index q =
      let z : index - i ≡ 0 = omega arith in
      rw (z, stand-go entry s i n at next e h g) refl

  pub view-go : (index : ℕ) → i < index
      → view_from at (standing entry i (n - i) s at) (index - i) ≡ view_from next (standing entry (i + 1) (n - (i + 1)) s next) (index - (i + 1))
  unfolding view_from
  view-go index q =
      let z : index - i ≡ suc (index - (i + 1)) = omega arith in
      rw (z, stand-go entry s i n at next e h g)
      (ap (λ (x : ℕ). view_from x (standing entry (i + 1) (n - (i + 1)) s next) (index - (i + 1))) (sym (entry-end i s at next e g)))

pub view-none : (at i : ℕ) (l : List PitchEntry) → l ≡ [] → view_from at l i ≡ none
unfolding view_from
view-none at i l h = rw h refl

-- the entries of an accepted image stand where its header ends
pub view-table : (s : List ℕ) (d : Header) (at n e index : ℕ) → counts (decode s) ≡ ok n e → header s 0 ≡ ok d at
    → view_of_index (decode s) index ≡ view_from at (entry_list d.count s at) index
view-table s d at n e index h g =
    ap (λ (p : Parsed CoeffTable). view_of_index p index) (read_table s d at n e h g)
    ∙ ap (λ (x : ℕ). view_from x (entry_list d.count s at) index) (sym (header-end s at d g))
