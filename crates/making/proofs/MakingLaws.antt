-- Laws of questions 8 to 12: what an accepted making says of its table and arguments. Assumes nothing.
use Prim.Native.Nat.{ℕ, zero, suc, ◌+◌, ◌≤◌}
use mathlib.Core.Path.{◌≡◌, refl}
use mathlib.Core.List.{List, [], ◌∷◌, ◌++◌, append-nil}
use mathlib.Core.Bool.{Bool, true, false, ◌&&◌, cond}
use native.Mathlib.Omega.{arith}
use native.Mathlib.Numerals.{add-one}
use lib.ListN.{length, length-append}
use lib.Dec.{leb, eqb}
use lib.Ieee.{Float}
use lib.Ieee.Scale.{finite}
use borrow.Author.Tests.{leb-true, le-leb, eqb-true, eq-eqb}
use Rattle.wire.specs.Parse.{Refusal, refusal}
use Rattle.table.specs.declared.desk.Kind.{Kind}
use Rattle.table.specs.Table.{PitchEntry}
use Rattle.table.specs.Desk.{band_count}
use Rattle.voice.specs.Voice.{rate_ok}
use Rattle.making.specs.Making.{all, sizes_ok, limits_ok, values_ok, ask_values, channel_found, ask_making, table_question, is_live, live_bands}
use Rattle.voice.proofs.Loops.{both_true}

-- all questions of a table are answered yes
pub record Accepted (k : Kind) (es : List PitchEntry) (rate : Float) (centres : List Float) : Type 0 where
  pub few : length es ≤ 16
  pub sizes : all sizes_ok es ≡ true
  pub values : all values_ok es ≡ true
  pub found : channel_found k es ≡ true
  pub rate-ok : rate_ok rate ≡ true
  pub as_many : length centres ≡ band_count k es
  pub centres-finite : all finite centres ≡ true

ask_making-yes : (b : Bool) (n : ℕ) (r : Refusal) → (ask_making b (suc n) r).number ≡ 0 → (b ≡ true) × (r.number ≡ 0)
ask_making-yes true n r h = (refl, h)
ask_making-yes false n r h = absurd (omega arith)

asked-values : (i : ℕ) (es : List PitchEntry) (r : Refusal) → (ask_values i es r).number ≡ 0 → (all values_ok es ≡ true) × (r.number ≡ 0)
unfolding ask_values all
asked-values i [] r h = (refl, h)
asked-values i (e ∷ es) r h = go (values_ok e) (asked-values (i + 1) es r) h
  where
    go : (b : Bool) → ((ask_values (i + 1) es r).number ≡ 0 → (all values_ok es ≡ true) × (r.number ≡ 0)) → (cond b (ask_values (i + 1) es r) (refusal 9 i 0)).number ≡ 0 → (b && all values_ok es ≡ true) × (r.number ≡ 0)
    go true ih p = ih p
    go false ih p = absurd (omega arith)

pub values-pass : (i : ℕ) (es : List PitchEntry) (r : Refusal) → all values_ok es ≡ true → ask_values i es r ≡ r
unfolding ask_values all
values-pass i [] r h = refl
values-pass i (e ∷ es) r h = let p = both_true (values_ok e) (all values_ok es) h in rw p.0 (values-pass (i + 1) es r p.1)

module _ (k : Kind) (es : List PitchEntry) (rate : Float) (centres : List Float) where
  -- LAW: a table's making is accepted only where all is as asked for
  pub table-accepted : (table_question k es rate centres).number ≡ 0 → Accepted k es rate centres
  unfolding table_question limits_ok
  table-accepted h =
      let a = ask_making-yes (leb (length es) 16 && all sizes_ok es) 7 _ h in
      let b = asked-values 0 es _ a.1 in
      let c = ask_making-yes (channel_found k es) 9 _ b.1 in
      let d = ask_making-yes (rate_ok rate) 10 _ c.1 in
      let e = ask_making-yes (eqb (length centres) (band_count k es) && all finite centres) 11 _ d.1 in
      let l = both_true (leb (length es) 16) (all sizes_ok es) a.0 in
      let m = both_true (eqb (length centres) (band_count k es)) (all finite centres) e.0 in
      record {
        few = leb-true _ _ l.0;
        sizes = l.1;
        values = b.0;
        found = c.0;
        rate-ok = d.0;
        as_many = eqb-true _ _ m.0;
        centres-finite = m.1;
      }

  -- and there it is accepted
  pub accepted-question : Accepted k es rate centres → table_question k es rate centres ≡ refusal 0 0 0
  unfolding table_question limits_ok
  accepted-question a =
      rw (le-leb (length es) 16 a.few, a.sizes, values-pass 0 es _ a.values, a.found, a.rate-ok, eq-eqb (length centres) (band_count k es) a.as_many, a.centres-finite) refl

-- live bands, one band more
pub live-next : (k : Kind) (es : List PitchEntry) (b : ℕ) → live_bands k es (b + 1) ≡ live_bands k es b ++ cond (is_live k es b) (b ∷ []) []
unfolding live_bands
live-next k es b = rw add-one refl

pub live-short : (k : Kind) (es : List PitchEntry) (b : ℕ) → length (live_bands k es b) ≤ b
unfolding live_bands
live-short k es zero = omega arith
live-short k es (suc b) = go (is_live k es b) (live-short k es b)
  where
    go : (x : Bool) → length (live_bands k es b) ≤ b → length (live_bands k es b ++ cond x (b ∷ []) []) ≤ suc b
    go true h = rw (length-append (live_bands k es b) (b ∷ [])) (omega arith)
    go false h = rw (append-nil (live_bands k es b)) (omega arith)
