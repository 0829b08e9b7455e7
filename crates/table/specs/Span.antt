-- Question 7: has each entry both or neither of `noise_band_min_hz` and `noise_band_max_hz`, equal as floats to the first entry's?
use Rattle.std.specs.Prelude.{ℕ, ◌+◌, List, [], ◌∷◌, Bool, true, false, ◌&&◌, cond}
use Rattle.std.proofs.Math.Option.{Option, some, none}
use Rattle.std.specs.Float.Ieee.{eq, of_bits}
use Rattle.std.specs.Float.{binary32}
use Rattle.wire.specs.Parse.{Refusal, refusal, Parsed, ok, refused, Parser}
use Rattle.table.specs.Table.{PitchEntry, metadata_value}
use Rattle.table.specs.declared.span.Span.{Span}

-- "noise_band_min_hz" and "noise_band_max_hz"
abbrev pub min_key : List ℕ
min_key = 0x6E ∷ 0x6F ∷ 0x69 ∷ 0x73 ∷ 0x65 ∷ 0x5F ∷ 0x62 ∷ 0x61 ∷ 0x6E ∷ 0x64 ∷ 0x5F ∷ 0x6D ∷ 0x69 ∷ 0x6E ∷ 0x5F ∷ 0x68 ∷ 0x7A ∷ []

abbrev pub max_key : List ℕ
max_key = 0x6E ∷ 0x6F ∷ 0x69 ∷ 0x73 ∷ 0x65 ∷ 0x5F ∷ 0x62 ∷ 0x61 ∷ 0x6E ∷ 0x64 ∷ 0x5F ∷ 0x6D ∷ 0x61 ∷ 0x78 ∷ 0x5F ∷ 0x68 ∷ 0x7A ∷ []

-- the two keys of an entry: both with their values, neither, or a lone one
abbrev pub span_from : Option ℕ → Option ℕ → Span
span_from (some a) (some b) = Span.Both a b
span_from (some a) none = Span.Lone
span_from none (some b) = Span.Lone
span_from none none = Span.Neither

abbrev pub span_of : PitchEntry → Span
span_of e = span_from (metadata_value min_key e.metadata) (metadata_value max_key e.metadata)

-- equal as floats: a NaN is unlike itself, 0 and -0 are alike
unfoldable pub float_eq : ℕ → ℕ → Bool
float_eq a b = eq (of_bits binary32 a) (of_bits binary32 b)

-- yes, or no with the refusal
pub data Verdict : Type 0 where
  agreed : Verdict
  broken : Refusal → Verdict

-- whether it is yes
abbrev pub agrees : Verdict → Bool
agrees agreed = true
agrees (broken r) = false

-- refusal 7, with first_entry and the index
abbrev pub inconsistent : ℕ → ℕ → Verdict
inconsistent f i = broken (refusal 7 f i)

-- the entry with index i and the span `sp` beside the first entry's span; `rest` is the verdict on the entries after it
abbrev pub beside : Span → ℕ → Span → Verdict → Verdict
beside first i Span.Lone rest = inconsistent i i
beside Span.Neither i Span.Neither rest = rest
beside Span.Neither i (Span.Both a b) rest = inconsistent 0 i
beside (Span.Both x y) i Span.Neither rest = inconsistent 0 i
beside (Span.Both x y) i (Span.Both a b) rest = cond (float_eq x a && float_eq y b) rest (inconsistent 0 i)
beside Span.Lone i Span.Neither rest = inconsistent 0 i
beside Span.Lone i (Span.Both a b) rest = inconsistent 0 i

unfoldable pub agree : Span → ℕ → List PitchEntry → Verdict
agree first i [] = agreed
agree first i (e ∷ es) = beside first i (span_of e) (agree first (i + 1) es)

-- the first entry, whose index is i, sets the span; one with a lone key breaks the rule by itself
abbrev pub start : Span → ℕ → List PitchEntry → Verdict
start Span.Lone i es = inconsistent i i
start Span.Neither i es = agree Span.Neither (i + 1) es
start (Span.Both a b) i es = agree (Span.Both a b) (i + 1) es

abbrev pub consistent_from : ℕ → List PitchEntry → Verdict
consistent_from i [] = agreed
consistent_from i (e ∷ es) = start (span_of e) i es

abbrev pub consistent : List PitchEntry → Verdict
consistent es = consistent_from 0 es

abbrev pub ruled : Verdict → ℕ → Parsed Bool
ruled agreed at = ok true at
ruled (broken r) at = refused r

-- the question, asked of all entries of a table
abbrev pub ask_spans : List PitchEntry → Parser Bool
ask_spans es s at = ruled (consistent es) at
