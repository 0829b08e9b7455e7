-- The entries of a table held as their views.
use Rattle.std.specs.Prelude.{ℕ, zero, suc, ◌+◌, ◌≡◌, List, [], ◌∷◌, length, replicate, Result, Ok, Err, IfOk}
use Rattle.wire.specs.Parse.{Parsed, ok, refused}
use Rattle.table.specs.declared.entry.EntryView.{EntryView}
use Rattle.table.specs.declared.error.CoeffTableCodecError.{CoeffTableCodecError}
use Rattle.table.specs.declared.views.Views.{Views}
use Rattle.table.specs.Table.{PitchEntry, CoeffTable}
use Rattle.table.specs.Size.{entry_size}
use Rattle.table.specs.Decode.{decode}
use Rattle.table.specs.View.{view_of}
use Rattle.table.specs.Answer.{refusal_of, counts}

-- a view of nothing: all 0; it is also what a view past the end of a list is
abbrev pub no_view : EntryView
no_view = record {
  f0_hz = 0;
  stretch = 0;
  m_partials = 0;
  k_channels = 0;
  j_noise = 0;
  coefficients = 0;
  pairs = 0;
  partials_at = 0;
  coefficients_at = 0;
  pairs_at = 0;
  end = 0;
}

-- the views of the first n entries of those that stand from a position on, each at the end of the one before it; past the last, of nothing
unfoldable pub views_from : ℕ → ℕ → List PitchEntry → List EntryView
views_from n at [] = replicate n no_view
views_from zero at (e ∷ es) = []
views_from (suc n) at (e ∷ es) = view_of at e ∷ views_from n (at + entry_size e) es

-- a reading keeps 16 views
abbrev pub max_views : ℕ
max_views = 16

-- the views of an image: of its table's first 16 entries; where it is refused, of nothing
abbrev pub views_of : Parsed CoeffTable → List EntryView
views_of (ok t end) = views_from max_views (14 + length t.name) t.entries
views_of (refused r) = replicate max_views no_view

-- `views_of`: the entry count and the end of the last entry, as of `from_bytes`
abbrev pub views_parsed : Result Views CoeffTableCodecError → Parsed ℕ
views_parsed (Ok v) = ok v.counts.entries v.counts.end
views_parsed (Err e) = refused (refusal_of e)

-- a reading that keeps views: the answer to the image, and its views
pub record ViewsRead (s : List ℕ) (r : Result Views CoeffTableCodecError) : Type 0 where
  pub reading : views_parsed r ≡ counts (decode s)
  pub views : IfOk r (λ v. v.views ≡ views_of (decode s))
