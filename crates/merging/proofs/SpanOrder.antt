-- Question 7 does not turn on the order of the entries, NaN spans included; and of two tables it is one comparison. Assumes nothing.
use Prim.Native.Nat.{ℕ, ◌+◌}
use mathlib.Core.Path.{◌≡◌, refl, ap, sym, ◌∙◌}
use mathlib.Core.List.{List, [], ◌∷◌, ◌++◌}
use mathlib.Core.Bool.{Bool, true, false, ◌&&◌, cond}
use native.Mathlib.Omega.{arith}
use Rattle.merging.specs.Order.{Every, here, Arranged, nothing, more}
use Rattle.merging.proofs.OrderLaws.{every-imp, every-join, every-arranged, arranged-sym}
use Rattle.table.specs.declared.span.Span.{Span}
use Rattle.table.specs.Table.{PitchEntry}
use Rattle.table.specs.Span.{span_of, float_eq, Verdict, agreed, broken, inconsistent, beside, agree, start, consistent, agrees}
use Rattle.merging.proofs.FloatLaws.{float-sym, float-trans}

no : false ≡ true → ⊥
no h = let z : ◌≡◌ {A = ℕ} 0 1 = cc in omega arith

-- two spans agree
abbrev pub alike : Span → Span → Bool
alike Span.Neither Span.Neither = true
alike Span.Neither Span.Lone = false
alike Span.Neither (Span.Both a b) = false
alike Span.Lone Span.Neither = false
alike Span.Lone Span.Lone = false
alike Span.Lone (Span.Both a b) = false
alike (Span.Both x y) Span.Neither = false
alike (Span.Both x y) Span.Lone = false
alike (Span.Both x y) (Span.Both a b) = float_eq x a && float_eq y b

and_is : (a b : Bool) → (a && b) ≡ true → (a ≡ true) × (b ≡ true)
and_is true b h = (refl, h)
and_is false b h = absurd (no h)

and_from : (a b : Bool) → a ≡ true → b ≡ true → (a && b) ≡ true
and_from a b p q = rw (p, q) refl

alike-sym : (s t : Span) → alike s t ≡ true → alike t s ≡ true
alike-sym Span.Neither Span.Neither h = refl
alike-sym Span.Neither Span.Lone h = absurd (no h)
alike-sym Span.Neither (Span.Both a b) h = absurd (no h)
alike-sym Span.Lone Span.Neither h = absurd (no h)
alike-sym Span.Lone Span.Lone h = absurd (no h)
alike-sym Span.Lone (Span.Both a b) h = absurd (no h)
alike-sym (Span.Both x y) Span.Neither h = absurd (no h)
alike-sym (Span.Both x y) Span.Lone h = absurd (no h)
alike-sym (Span.Both x y) (Span.Both a b) h =
    let p = and_is (float_eq x a) (float_eq y b) h in
    and_from (float_eq a x) (float_eq b y) (float-sym x a p.0) (float-sym y b p.1)

alike_both : (x y : ℕ) (t : Span) (a b : ℕ) → alike (Span.Both x y) t ≡ true → alike t (Span.Both a b) ≡ true → alike (Span.Both x y) (Span.Both a b) ≡ true
alike_both x y Span.Neither a b h g = absurd (no h)
alike_both x y Span.Lone a b h g = absurd (no h)
alike_both x y (Span.Both c d) a b h g =
    let p = and_is (float_eq x c) (float_eq y d) h in
    let q = and_is (float_eq c a) (float_eq d b) g in
    and_from (float_eq x a) (float_eq y b) (float-trans x c a p.0 q.0) (float-trans y d b p.1 q.1)

alike-trans : (r s t : Span) → alike r s ≡ true → alike s t ≡ true → alike r t ≡ true
alike-trans Span.Neither Span.Neither t h g = g
alike-trans Span.Neither Span.Lone t h g = absurd (no h)
alike-trans Span.Neither (Span.Both a b) t h g = absurd (no h)
alike-trans Span.Lone Span.Neither t h g = absurd (no h)
alike-trans Span.Lone Span.Lone t h g = absurd (no h)
alike-trans Span.Lone (Span.Both a b) t h g = absurd (no h)
alike-trans (Span.Both x y) Span.Neither t h g = absurd (no h)
alike-trans (Span.Both x y) Span.Lone t h g = absurd (no h)
alike-trans (Span.Both x y) (Span.Both c d) Span.Neither h g = absurd (no g)
alike-trans (Span.Both x y) (Span.Both c d) Span.Lone h g = absurd (no g)
alike-trans (Span.Both x y) (Span.Both c d) (Span.Both a b) h g = alike_both x y (Span.Both c d) a b h g

-- ---- the reader's verdict is that every span is like the first's
abbrev Like : Span → PitchEntry → Type 0
Like s e = alike s (span_of e) ≡ true

beside-is : (first sp : Span) (i : ℕ) (rest : Verdict) → beside first i sp rest ≡ agreed → (alike first sp ≡ true) × (rest ≡ agreed)
beside-is Span.Neither Span.Neither i rest h = (refl, h)
beside-is Span.Neither Span.Lone i rest h = let z : ◌≡◌ {A = ℕ} 0 1 = cc in absurd (omega arith)
beside-is Span.Neither (Span.Both a b) i rest h = let z : ◌≡◌ {A = ℕ} 0 1 = cc in absurd (omega arith)
beside-is Span.Lone Span.Neither i rest h = let z : ◌≡◌ {A = ℕ} 0 1 = cc in absurd (omega arith)
beside-is Span.Lone Span.Lone i rest h = let z : ◌≡◌ {A = ℕ} 0 1 = cc in absurd (omega arith)
beside-is Span.Lone (Span.Both a b) i rest h = let z : ◌≡◌ {A = ℕ} 0 1 = cc in absurd (omega arith)
beside-is (Span.Both x y) Span.Neither i rest h = let z : ◌≡◌ {A = ℕ} 0 1 = cc in absurd (omega arith)
beside-is (Span.Both x y) Span.Lone i rest h = let z : ◌≡◌ {A = ℕ} 0 1 = cc in absurd (omega arith)
beside-is (Span.Both x y) (Span.Both a b) i rest h = go (float_eq x a && float_eq y b) h
  where
    go : (t : Bool) → cond t rest (inconsistent 0 i) ≡ agreed → (t ≡ true) × (rest ≡ agreed)
    go true k = (refl, k)
    go false k = let z : ◌≡◌ {A = ℕ} 0 1 = cc in absurd (omega arith)

beside-like : (first sp : Span) (i : ℕ) (rest : Verdict) → alike first sp ≡ true → beside first i sp rest ≡ rest
beside-like Span.Neither Span.Neither i rest h = refl
beside-like Span.Neither Span.Lone i rest h = absurd (no h)
beside-like Span.Neither (Span.Both a b) i rest h = absurd (no h)
beside-like Span.Lone Span.Neither i rest h = absurd (no h)
beside-like Span.Lone Span.Lone i rest h = absurd (no h)
beside-like Span.Lone (Span.Both a b) i rest h = absurd (no h)
beside-like (Span.Both x y) Span.Neither i rest h = absurd (no h)
beside-like (Span.Both x y) Span.Lone i rest h = absurd (no h)
beside-like (Span.Both x y) (Span.Both a b) i rest h = rw h refl

agree-is : (first : Span) (i : ℕ) (es : List PitchEntry) → agree first i es ≡ agreed → Every (Like first) es
unfolding agree Every
agree-is first i [] h = tt
agree-is first i (e ∷ es) h =
    let p = beside-is first (span_of e) i (agree first (i + 1) es) h in
    (p.0, agree-is first (i + 1) es p.1)

agree-from : (first : Span) (i : ℕ) (es : List PitchEntry) → Every (Like first) es → agree first i es ≡ agreed
unfolding agree Every
agree-from first i [] h = refl
agree-from first i (e ∷ es) h = beside-like first (span_of e) i (agree first (i + 1) es) h.0 ∙ agree-from first (i + 1) es h.1

-- the first entry has both keys or neither
abbrev whole : Span → Bool
whole Span.Neither = true
whole Span.Lone = false
whole (Span.Both a b) = true

start_is : (sp : Span) (i : ℕ) (es : List PitchEntry) → start sp i es ≡ agreed → (whole sp ≡ true) × (agree sp (i + 1) es ≡ agreed)
start_is Span.Neither i es h = (refl, h)
start_is Span.Lone i es h = let z : ◌≡◌ {A = ℕ} 0 1 = cc in absurd (omega arith)
start_is (Span.Both a b) i es h = (refl, h)

start-from : (sp : Span) (i : ℕ) (es : List PitchEntry) → whole sp ≡ true → start sp i es ≡ agree sp (i + 1) es
start-from Span.Neither i es h = refl
start-from Span.Lone i es h = absurd (no h)
start-from (Span.Both a b) i es h = refl

alike-whole : (s t : Span) → alike s t ≡ true → whole t ≡ true
alike-whole Span.Neither Span.Neither h = refl
alike-whole Span.Neither Span.Lone h = absurd (no h)
alike-whole Span.Neither (Span.Both a b) h = refl
alike-whole Span.Lone Span.Neither h = refl
alike-whole Span.Lone Span.Lone h = absurd (no h)
alike-whole Span.Lone (Span.Both a b) h = refl
alike-whole (Span.Both x y) Span.Neither h = refl
alike-whole (Span.Both x y) Span.Lone h = absurd (no h)
alike-whole (Span.Both x y) (Span.Both a b) h = refl

pub consistent-is : (e : PitchEntry) (es : List PitchEntry) → consistent (e ∷ es) ≡ agreed → (whole (span_of e) ≡ true) × Every (Like (span_of e)) es
consistent-is e es h =
    let p = start_is (span_of e) 0 es h in
    (p.0, agree-is (span_of e) 1 es p.1)

pub consistent-from : (e : PitchEntry) (es : List PitchEntry) → whole (span_of e) ≡ true → Every (Like (span_of e)) es → consistent (e ∷ es) ≡ agreed
consistent-from e es w h = start-from (span_of e) 0 es w ∙ agree-from (span_of e) 1 es h

-- entries whose spans are all like one span agree, whichever comes first
all-like : (s : Span) (es : List PitchEntry) → Every (Like s) es → consistent es ≡ agreed
unfolding Every
all-like s [] h = refl
all-like s (e ∷ es) h =
    consistent-from e es (alike-whole s (span_of e) h.0)
    (every-imp (λ f k. alike-trans (span_of e) s (span_of f) (alike-sym s (span_of e) h.0) k) es h.1)

-- ---- LAW: another arrangement of entries that agree agrees
pub consistent-arranged : {es fs : List PitchEntry} → Arranged es fs → consistent es ≡ agreed → consistent fs ≡ agreed
unfolding Every
consistent-arranged nothing h = refl
consistent-arranged (more nothing here) h = h
consistent-arranged (more {a = e} {n = out} (more {a = f} {l = k} r p) q) h =
    let w = consistent-is e (f ∷ k) h in
    let x : alike (span_of e) (span_of f) ≡ true = w.1.0 in
    let y : alike (span_of e) (span_of e) ≡ true = alike-trans (span_of e) (span_of f) (span_of e) x (alike-sym (span_of e) (span_of f) x) in
    let all : Every (Like (span_of e)) (e ∷ f ∷ k) = (y, w.1) in
    all-like (span_of e) out (every-arranged (Like (span_of e)) (more (more r p) q) all)

-- LAW: so question 7 does not turn on the order, whatever its answer
pub consistent-alike : {es fs : List PitchEntry} → Arranged es fs → agrees (consistent es) ≡ agrees (consistent fs)
consistent-alike {es} {fs} r = go (consistent es) (consistent fs) refl refl
  where
    go : (v w : Verdict) → consistent es ≡ v → consistent fs ≡ w → agrees v ≡ agrees w
    go agreed w h g = ap agrees (sym (sym g ∙ consistent-arranged r h))
    go (broken a) agreed h g =
        let k : agreed ≡ broken a = sym (consistent-arranged (arranged-sym r) g) ∙ h in
        let z : ◌≡◌ {A = ℕ} 0 1 = cc in
        absurd (omega arith)
    go (broken a) (broken b) h g = refl

-- ---- LAW: of two tables that each agree, the joined one agrees where the first entries' spans are alike, or one has no entry
joined-agrees : (e : PitchEntry) (es : List PitchEntry) (f : PitchEntry) (fs : List PitchEntry)
    → consistent (e ∷ es) ≡ agreed → consistent (f ∷ fs) ≡ agreed → alike (span_of e) (span_of f) ≡ true → consistent (e ∷ es ++ f ∷ fs) ≡ agreed
unfolding Every
joined-agrees e es f fs h g x =
    let w = consistent-is e es h in
    let v = consistent-is f fs g in
    consistent-from e (es ++ f ∷ fs) w.0
    (every-join (Like (span_of e)) es (f ∷ fs) w.1 (x, every-imp (λ d k. alike-trans (span_of e) (span_of f) (span_of d) x k) fs v.1))

last : (e f : PitchEntry) (fs l : List PitchEntry) → Every (Like (span_of e)) (l ++ f ∷ fs) → alike (span_of e) (span_of f) ≡ true
unfolding Every
last e f fs [] h = h.0
last e f fs (d ∷ l) h = last e f fs l h.1

joined-disagrees : (e : PitchEntry) (es : List PitchEntry) (f : PitchEntry) (fs : List PitchEntry)
    → alike (span_of e) (span_of f) ≡ false → agrees (consistent (e ∷ es ++ f ∷ fs)) ≡ false
joined-disagrees e es f fs x = go (consistent (e ∷ es ++ f ∷ fs)) refl
  where
    go : (v : Verdict) → consistent (e ∷ es ++ f ∷ fs) ≡ v → agrees v ≡ false
    go agreed h = let w : alike (span_of e) (span_of f) ≡ true = last e f fs es (consistent-is e (es ++ f ∷ fs) h).1 in let z : ◌≡◌ {A = ℕ} 0 1 = cc in absurd (omega arith)
    go (broken r) h = refl

-- LAW: so it is question 7 of the two first entries by themselves
pub joined_is : (e : PitchEntry) (es : List PitchEntry) (f : PitchEntry) (fs : List PitchEntry)
    → consistent (e ∷ es) ≡ agreed → consistent (f ∷ fs) ≡ agreed → agrees (consistent (e ∷ f ∷ [])) ≡ agrees (consistent (e ∷ es ++ f ∷ fs))
unfolding Every
joined_is e es f fs h g = go (alike (span_of e) (span_of f)) refl
  where
    go : (t : Bool) → alike (span_of e) (span_of f) ≡ t → agrees (consistent (e ∷ f ∷ [])) ≡ agrees (consistent (e ∷ es ++ f ∷ fs))
    go true k = ap agrees (consistent-from e (f ∷ []) (consistent-is e es h).0 (k, tt) ∙ sym (joined-agrees e es f fs h g k))
    go false k = joined-disagrees e [] f [] k ∙ sym (joined-disagrees e es f fs k)
