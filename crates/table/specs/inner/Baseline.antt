-- Question 7 in one pass over the entries: what the pass holds after each. Cited by private functions only.
use Rattle.std.specs.Prelude.{ℕ, ◌+◌, List, ◌&&◌, cond, length}
use Rattle.wire.specs.Parse.{Parsed, ok, refused}
use Rattle.table.specs.declared.span.Span.{Span}
use Rattle.table.specs.declared.span.Baseline.{Baseline}
use Rattle.table.specs.Table.{PitchEntry}
use Rattle.table.specs.Span.{float_eq, Verdict, agreed, broken, inconsistent, agree, consistent_from}

unfoldable pub judged : Baseline → ℕ → Span → Baseline
judged (Baseline.Broken f b) i sp = Baseline.Broken f b
judged Baseline.Start i Span.Lone = Baseline.Broken i i
judged Baseline.Start i Span.Neither = Baseline.Neither
judged Baseline.Start i (Span.Both a b) = Baseline.Both a b
judged Baseline.Neither i Span.Lone = Baseline.Broken i i
judged Baseline.Neither i Span.Neither = Baseline.Neither
judged Baseline.Neither i (Span.Both a b) = Baseline.Broken 0 i
judged (Baseline.Both x y) i Span.Lone = Baseline.Broken i i
judged (Baseline.Both x y) i Span.Neither = Baseline.Broken 0 i
judged (Baseline.Both x y) i (Span.Both a b) = cond (float_eq x a && float_eq y b) (Baseline.Both x y) (Baseline.Broken 0 i)

-- the verdict on the whole table, from the pass's state before the entry with index i and the entries from there on
unfoldable pub verdict_from : Baseline → ℕ → List PitchEntry → Verdict
verdict_from Baseline.Start i es = consistent_from i es
verdict_from Baseline.Neither i es = agree Span.Neither i es
verdict_from (Baseline.Both a b) i es = agree (Span.Both a b) i es
verdict_from (Baseline.Broken f k) i es = inconsistent f k

-- the answer of the pass: n entries that end at a position
abbrev pub concluded : Verdict → ℕ → ℕ → Parsed ℕ
concluded agreed n end = ok n end
concluded (broken r) n end = refused r

-- the answer from the entry with index i on, where the entries left are read as given
unfoldable pub answer_from : Baseline → ℕ → Parsed (List PitchEntry) → Parsed ℕ
answer_from j i (ok es end) = concluded (verdict_from j i es) (i + length es) end
answer_from j i (refused r) = refused r
