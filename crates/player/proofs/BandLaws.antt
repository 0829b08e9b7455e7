-- A single voice with all its bands live keeps the voice rules, and is all but its list as it was.
use mathlib.Core.Path.{◌≡◌, refl, ap, sym, ◌∙◌}
use mathlib.Core.Bool.{Bool, true, false, ◌&&◌, cond}
use mathlib.Core.List.{List, [], ◌∷◌}
use Prim.Native.Nat.{ℕ, ◌+◌, ◌-◌, ◌≤◌, ◌<◌}
use native.Mathlib.Omega.{arith}
use lib.ListN.{length, take, get_or, get_or-append}
use lib.Seq.{get_or-take, length-take-le}
use borrow.Author.Tests.{eq-eqb}
use lib.Ieee.{Float}
use lib.Dec.{eqb, ltb, leb, lt→ltb}
use lib.Ieee.Bits.{is_true}
use Rattle.voice.specs.Limits.{max_bands}
use Rattle.voice.specs.Lists.{up_to, every}
use Rattle.voice.specs.Voice.{counts_ok, entries_ok, rate_ok, live_ok, phases_ok, rules_of, keeps_rules, bands_ascend}
use Rattle.voice.specs.declared.voice.Setting.{Setting}
use Rattle.voice.specs.declared.voice.Voice.{Voice}
use Rattle.voice.proofs.Loops.{at_every, both_true, length-up_to, up_to-at}
use Rattle.voice.proofs.QuestionLaws.{kept, counts-are}
use Rattle.player.specs.Bands.{all_bands, all_live, ticking_set, ticking}
use Rattle.player.specs.inner.Passes.{EntriesFit, LiveFit, LiveOf}

below-is : (a b : ℕ) → a < b → ltb a b ≡ true
below-is a b h = is_true (ltb a b) (lt→ltb a b h)

-- band b stands in place b
pub all-at : (j b : ℕ) → b < j → get_or (all_bands j) b 0 ≡ b
all-at j b h =
    let l : length (up_to (λ (i : ℕ). i) j) ≡ j = length-up_to (λ (i : ℕ). i) j in
    get_or-append (up_to (λ (i : ℕ). i) j) _ 0 b (omega (arith, l, h)) ∙ up_to-at (λ (i : ℕ). i) j b 0 h

-- all bands that there are, as the code lists them
abbrev listed : List ℕ
listed = 0 ∷ 1 ∷ 2 ∷ 3 ∷ 4 ∷ 5 ∷ 6 ∷ 7 ∷ 8 ∷ 9 ∷ 10 ∷ 11 ∷ 12 ∷ 13 ∷ 14 ∷ 15 ∷ []

listed-are : listed ≡ up_to (λ (i : ℕ). i) 16
unfolding up_to
listed-are = refl

listed-at : (l : ℕ) → l < 16 → get_or listed l 0 ≡ l
listed-at l h = ap (λ (z : List ℕ). get_or z l 0) listed-are ∙ up_to-at (λ (i : ℕ). i) 16 l 0 h

-- LAW: the first j of them are the bands of a single voice that tick
pub lists-all : (s : Setting) → s.blend ≡ 0 → s.j ≤ max_bands → LiveOf s (take s.j listed)
lists-all s z h =
    let e : length (take s.j listed) ≡ s.j = length-take-le s.j listed h in
    record {
      count = rw (eq-eqb _ _ z) e;
      bands = λ l k. let a : l < s.j = omega arith in
          rw (eq-eqb _ _ z) (get_or-take s.j listed l 0 a ∙ listed-at l (omega arith) ∙ sym (all-at s.j l a));
    }

-- a single voice's bands are no more than there are, where those that tick are
pub single-most : (s : Setting) → s.blend ≡ 0 → LiveFit (ticking_set s) → s.j ≤ max_bands
single-most s z K = let F : LiveFit (all_live s) = rw (eq-eqb _ _ z) at K in F.most

-- what the numbers that a voice is played by need of it, its own numbers need: they differ by the list of live bands alone
entries-alike : (b : Bool) (s : Setting) (lists : List Float) → EntriesFit (cond b (all_live s) s) lists → EntriesFit s lists
entries-alike true s lists F = record { sizes = F.sizes; pitches-ok = F.pitches-ok; stretches-ok = F.stretches-ok; rate = F.rate }
entries-alike false s lists F = F

pub entries-ticked : (s : Setting) (lists : List Float) → EntriesFit (ticking_set s) lists → EntriesFit s lists
entries-ticked s = entries-alike (eqb s.blend 0) s

phases-alike : (b : Bool) (s : Setting) (phases : List Float) → phases_ok phases (cond b (all_live s) s).m ≡ true
    → phases_ok phases s.m ≡ true
phases-alike true s phases h = h
phases-alike false s phases h = h

pub phases-ticked : (s : Setting) (phases : List Float) → phases_ok phases (ticking_set s).m ≡ true → phases_ok phases s.m ≡ true
phases-ticked s = phases-alike (eqb s.blend 0) s

all-below : (j : ℕ) → every (λ i. ltb (get_or (all_bands j) i 0) j) j ≡ true
all-below j = at_every (λ i. ltb (get_or (all_bands j) i 0) j) j (λ i l. rw (all-at j i l) (below-is i j l))

all-ascend : (j : ℕ) → bands_ascend (all_bands j) j ≡ true
all-ascend j =
    at_every (λ i. ltb (get_or (all_bands j) i 0) (get_or (all_bands j) (i + 1) 0)) (j - 1)
    (λ i l. rw (all-at j i (omega (arith, l)), all-at j (i + 1) (omega (arith, l))) (below-is i (i + 1) (omega arith)))

live_all : (s : Setting) → live_ok (all_live s) ≡ true
unfolding live_ok
live_all s = rw (all-below s.j, all-ascend s.j)

-- the last of the counts is the third
counts-twice : (a b c d e : Bool) → a && (b && (c && (d && e))) ≡ true → a && (b && (c && (d && c))) ≡ true
counts-twice true true true true e h = refl
counts-twice true true true false e h = h
counts-twice true true false d e h = h
counts-twice true false c d e h = h
counts-twice false b c d e h = h

counts_all : (s : Setting) → counts_ok s ≡ true → counts_ok (all_live s) ≡ true
unfolding counts_ok
counts_all s h = counts-twice (leb s.count 16) (leb s.m 32) (leb s.j 16) (leb s.k 4) _ h

rules-all : (s : Setting) (lists phases : List Float) → rules_of s lists phases ≡ true → rules_of (all_live s) lists phases ≡ true
unfolding rules_of
rules-all s lists phases h =
    let p = both_true (counts_ok s) _ h in
    let q = both_true (entries_ok lists s.count) _ p.1 in
    let r = both_true (rate_ok s.sample_rate) _ q.1 in
    let t = both_true (live_ok s) _ r.1 in
    rw (counts_all s p.0, q.0, r.0, live_all s, t.1)

rules-ticking : (b : Bool) (s : Setting) (lists phases : List Float) → rules_of s lists phases ≡ true → rules_of (cond b (all_live s) s) lists phases ≡ true
rules-ticking true s lists phases h = rules-all s lists phases h
rules-ticking false s lists phases h = h

-- LAW: a voice that keeps the rules keeps them as it is played
pub ticking-rules : (v : Voice) → keeps_rules v ≡ true → keeps_rules (ticking v) ≡ true
ticking-rules v h = rules-ticking (eqb v.set.blend 0) v.set v.lists v.state.phases h

pub bands-most : (v : Voice) → keeps_rules v ≡ true → v.set.j ≤ max_bands
bands-most v h = (counts-are v.set.count v.set.m v.set.j v.set.k v.set.live_count (unfold counts_ok in (kept v h).counts)).2
