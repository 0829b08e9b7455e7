-- Laws of question 7: equality of bit patterns as floats, and one pass over the entries. Assumes nothing.
use Prim.Native.Nat.{ℕ, suc, ◌+◌, ◌-◌, ◌≤◌, ◌<◌}
use mathlib.Core.Path.{◌≡◌, refl, ap, sym, ◌∙◌}
use mathlib.Core.List.{List, [], ◌∷◌}
use mathlib.Core.Bool.{Bool, true, false, ◌&&◌, cond}
use native.Mathlib.Omega.{arith}
use lib.ListN.{length}
use Rattle.wire.specs.Parse.{Refusal, Parsed, ok, refused, then, many}
use Rattle.wire.proofs.Many.{many-go, many-no, many-end}
use Rattle.std.specs.Prelude.{Result, Ok, Err, is_ok}
use Rattle.table.specs.declared.error.CoeffTableCodecError.{CoeffTableCodecError}
use Rattle.table.specs.declared.read.Counts.{Counts}
use Rattle.table.specs.declared.span.Span.{Span}
use Rattle.table.specs.declared.span.Baseline.{Baseline}
use Rattle.table.specs.Table.{PitchEntry}
use Rattle.table.specs.Image.{entry}
use Rattle.table.specs.Span.{span_of, float_eq, Verdict, agreed, broken, inconsistent, agree, consistent, agrees}
use Rattle.table.specs.Answer.{reading_parsed}
use Rattle.table.specs.inner.Baseline.{judged, verdict_from, concluded, answer_from}

-- one entry more: the verdict from what the pass held before it is the one from what it holds after
by-equality : (b : Bool) (x y : ℕ) (i : ℕ) (es : List PitchEntry)
    → cond b (agree (Span.Both x y) (i + 1) es) (inconsistent 0 i) ≡ verdict_from (cond b (Baseline.Both x y) (Baseline.Broken 0 i)) (i + 1) es
unfolding verdict_from
by-equality true x y i es = refl
by-equality false x y i es = refl

judged-span : (j : Baseline) (i : ℕ) (sp : Span) (e : PitchEntry) (es : List PitchEntry) → span_of e ≡ sp → verdict_from j i (e ∷ es) ≡ verdict_from (judged j i sp) (i + 1) es
unfolding verdict_from judged agree
judged-span (Baseline.Broken f k) i sp e es h = refl
judged-span Baseline.Start i Span.Lone e es h = rw h refl
judged-span Baseline.Start i Span.Neither e es h = rw h refl
judged-span Baseline.Start i (Span.Both a b) e es h = rw h refl
judged-span Baseline.Neither i Span.Lone e es h = rw h refl
judged-span Baseline.Neither i Span.Neither e es h = rw h refl
judged-span Baseline.Neither i (Span.Both a b) e es h = rw h refl
judged-span (Baseline.Both x y) i Span.Lone e es h = rw h refl
judged-span (Baseline.Both x y) i Span.Neither e es h = rw h refl
judged-span (Baseline.Both x y) i (Span.Both a b) e es h = rw h (by-equality (float_eq x a && float_eq y b) x y i es)

pub verdict-step : (j : Baseline) (i : ℕ) (e : PitchEntry) (es : List PitchEntry) → verdict_from j i (e ∷ es) ≡ verdict_from (judged j i (span_of e)) (i + 1) es
verdict-step j i e es = judged-span j i (span_of e) e es refl

-- the entries from an index on, by what stands at the first
outcome-cons : (j : Baseline) (i : ℕ) (e : PitchEntry) (r : Parsed (List PitchEntry)) → answer_from j i (then r (λ es at. ok (e ∷ es) at)) ≡ answer_from (judged j i (span_of e)) (i + 1) r
unfolding answer_from
outcome-cons j i e (ok es at) =
    let p : i + suc (length es) ≡ i + 1 + length es = omega arith in
    rw (verdict-step j i e es, p) refl
outcome-cons j i e (refused r) = refl

pub entries-go : (j : Baseline) (s : List ℕ) (i n at next : ℕ) (e : PitchEntry) → i < n → entry i s at ≡ ok e next
    → answer_from j i (many entry i (n - i) s at) ≡ answer_from (judged j i (span_of e)) (i + 1) (many entry (i + 1) (n - (i + 1)) s next)
entries-go j s i n at next e h g = ap (answer_from j i) (many-go entry s i n at next e h g) ∙ outcome-cons j i e (many entry (i + 1) (n - (i + 1)) s next)

pub entries-no : (j : Baseline) (s : List ℕ) (i n at : ℕ) (r : Refusal) → i < n → entry i s at ≡ refused r → answer_from j i (many entry i (n - i) s at) ≡ refused r
unfolding answer_from
entries-no j s i n at r h g = rw (many-no entry s i n at r h g) refl

pub entries-end : (j : Baseline) (s : List ℕ) (i n at : ℕ) → i ≤ n → n ≤ i → answer_from j i (many entry i (n - i) s at) ≡ concluded (verdict_from j n []) n at
unfolding answer_from
entries-end j s i n at h g = let q : i + 0 ≡ n = omega arith in let p : i ≡ n = omega arith in rw (many-end entry s i n at g, q, p) refl

-- question 7 of two entries by themselves, by what a pass over the two holds
module _ (e f : PitchEntry) where
  abbrev both : Verdict
  both = verdict_from (judged (judged Baseline.Start 0 (span_of e)) 1 (span_of f)) 2 []

  both-judged : both ≡ consistent (e ∷ f ∷ [])
  unfolding verdict_from
  both-judged = sym (verdict-step Baseline.Start 0 e (f ∷ []) ∙ verdict-step (judged Baseline.Start 0 (span_of e)) 1 f [])

  -- whether the pass answered with a value is what the verdict says
  pub both-agree : (r : Result Counts CoeffTableCodecError) → reading_parsed r ≡ concluded both 2 0 → is_ok r ≡ agrees (consistent (e ∷ f ∷ []))
  both-agree r h = go r both h ∙ ap agrees both-judged
    where
      go : (r : Result Counts CoeffTableCodecError) (v : Verdict) → reading_parsed r ≡ concluded v 2 0 → is_ok r ≡ agrees v
      go (Ok c) agreed k = refl
      go (Ok c) (broken q) k = let z : ◌≡◌ {A = ℕ} 0 1 = cc in absurd (omega arith)
      go (Err x) agreed k = let z : ◌≡◌ {A = ℕ} 0 1 = cc in absurd (omega arith)
      go (Err x) (broken q) k = refl

  -- and where it is refused they do not agree
  pub both-differ : (r : Refusal) → concluded both 2 0 ≡ refused r → false ≡ agrees (consistent (e ∷ f ∷ []))
  both-differ r h = go both h ∙ ap agrees both-judged
    where
      go : (v : Verdict) → concluded v 2 0 ≡ refused r → false ≡ agrees v
      go agreed k = let z : ◌≡◌ {A = ℕ} 0 1 = cc in absurd (omega arith)
      go (broken q) k = refl

-- of entries that nothing broke the answer is their counts
pub unbroken : (j : Baseline) (n end : ℕ) → ((f i : ℕ) → j ≡ Baseline.Broken f i → ⊥) → ok n end ≡ concluded (verdict_from j n []) n end
unfolding verdict_from agree
unbroken Baseline.Start n end h = refl
unbroken Baseline.Neither n end h = refl
unbroken (Baseline.Both a b) n end h = refl
unbroken (Baseline.Broken f i) n end h = absurd (h f i refl)
