-- An entry where it stands in an image: which entry a view is of, and the view of an entry.
use Rattle.std.specs.Prelude.{ℕ, zero, suc, ◌+◌, ◌*◌, ◌≡◌, List, [], ◌∷◌, length, Result, Ok, Err}
use Rattle.wire.specs.Parse.{standing}
use Rattle.wire.specs.Cursor.{le32}
use Rattle.table.specs.declared.entry.EntryView.{EntryView}
use Rattle.table.specs.declared.error.CoeffTableCodecError.{CoeffTableCodecError}
use Rattle.table.specs.Table.{Pair, PitchEntry, m_partials}
use Rattle.table.specs.Size.{entry_size}
use Rattle.table.specs.Image.{pair}

-- the n 32-bit numbers that stand at a position
unfoldable pub word_list : List ℕ → ℕ → ℕ → List ℕ
word_list s at zero = []
word_list s at (suc n) = le32 s at ∷ word_list s (at + 4) n

-- the pairs that stand at a position, up to the first that cannot be read
abbrev pub pair_list : ℕ → List ℕ → ℕ → List Pair
pair_list n s at = standing (λ i. pair) 0 n s at

-- the entry that a view is of
abbrev pub entry_at : List ℕ → EntryView → PitchEntry
entry_at s v = record {
  f0_hz = v.f0_hz;
  stretch = v.stretch;
  partial_freqs = word_list s v.partials_at v.m_partials;
  k_channels = v.k_channels;
  j_noise = v.j_noise;
  coefficients = word_list s v.coefficients_at v.coefficients;
  metadata = pair_list v.pairs s v.pairs_at;
}

-- the view of an entry that starts at a position: its numbers, where its parts stand, and where it ends
abbrev pub view_of : ℕ → PitchEntry → EntryView
view_of at e = record {
  f0_hz = e.f0_hz;
  stretch = e.stretch;
  m_partials = m_partials e;
  k_channels = e.k_channels;
  j_noise = e.j_noise;
  coefficients = length e.coefficients;
  pairs = length e.metadata;
  partials_at = at + 12;
  coefficients_at = at + 24 + 4 * m_partials e;
  pairs_at = at + 28 + 4 * m_partials e + 4 * length e.coefficients;
  end = at + entry_size e;
}

-- a view read at a position is that of its entry there; of an entry that could not be read there is nothing to place
abbrev pub PlacedRead : List ℕ → ℕ → Result EntryView CoeffTableCodecError → Type 0
PlacedRead s at (Ok v) = v ≡ view_of at (entry_at s v)
PlacedRead s at (Err e) = Unit
