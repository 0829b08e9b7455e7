-- Laws on the centres of a text, line after line. Assumes nothing.
use Rattle.std.proofs.Common.{◌≡◌, ℕ, suc, ◌≤◌, Bool, true, false, cond, not, eqb, List, [], ◌∷◌, Option, Some, None, Result, Ok, Err, Bor, sym, refl, ap, ◌∙◌, arith, eq-eqb, ne_eqb}
use lib.Ieee.{Float}
use Rattle.std.specs.Option.{option_map, ok_or}
use Rattle.std.specs.Result.{IfOk}
use Rattle.std.proofs.lemmas.Bool.Decides.{nat_tests}
use Rattle.std.specs.List.{filter, find}
use Rattle.console.specs.declared.decimal.Decimal.{Decimal}
use Rattle.console.specs.declared.centres.Centres.{Centres}
use Rattle.console.specs.declared.centres.CentresError.{CentresError}
use Rattle.console.specs.Decimal.{read_of}
use Rattle.console.specs.Narrow.{value_of}
use Rattle.console.specs.Pieces.{lines_of, after_lines}
use Rattle.console.specs.Centres.{Few, plain, no_centres, with_centre, with_number, with_line, after_line, centres_of}

-- no carriage return
abbrev pub is_plain : ℕ → Bool
is_plain b = not (eqb b 13)

pub plain-filter : (line : List ℕ) → filter is_plain line ≡ plain line
unfolding plain
plain-filter [] = refl
plain-filter (b ∷ bs) = by_test (eqb b 13) (plain-filter bs)
  where
    by_test : (t : Bool) → filter is_plain bs ≡ plain bs →
        cond (not t) (b ∷ filter is_plain bs) (filter is_plain bs) ≡ cond t (plain bs) (b ∷ plain bs)
    by_test true e = e
    by_test false e = ap (λ (l : List ℕ). b ∷ l) e

-- the first byte of a line without its carriage returns
abbrev first_of : List ℕ → Option ℕ
first_of [] = None
first_of (b ∷ bs) = Some b

find-plain : (line : List ℕ) → find is_plain line ≡ first_of (plain line)
unfolding plain
find-plain [] = refl
find-plain (b ∷ bs) = by_test (eqb b 13) (find-plain bs)
  where
    by_test : (t : Bool) → find is_plain bs ≡ first_of (plain bs) →
        cond (not t) (Some b) (find is_plain bs) ≡ first_of (cond t (plain bs) (b ∷ plain bs))
    by_test true e = e
    by_test false e = refl

-- what a line says, by its first byte
module _ (c : Centres) (n : ℕ) where
  by-first-none : (bs : List ℕ) → first_of bs ≡ None → Ok c ≡ with_line c n bs
  by-first-none [] e = refl
  by-first-none (b ∷ bs) e = absurd (cc)

  by-first-comment : (bs : List ℕ) → first_of bs ≡ Some 35 → Ok c ≡ with_line c n bs
  by-first-comment [] e = refl
  by-first-comment (b ∷ bs) e = let h : b ≡ 35 = cc in rw (eq-eqb b 35 h)

  by-first-number : (bs : List ℕ) (b : ℕ) → first_of bs ≡ Some b → (b ≡ 35 → ⊥) → with_number c n (read_of bs) ≡ with_line c n bs
  by-first-number [] b e h = absurd (cc)
  by-first-number (x ∷ bs) b e h = let q : x ≡ b = cc in rw (q, ne_eqb b 35 h)

  module _ (line : List ℕ) (first : Option (Bor ℕ)) (f : option_map (λ (b : Bor ℕ). b.now) first ≡ find is_plain line) where
    pub line-none : first ≡ None → Ok c ≡ with_line c n (plain line)
    line-none e = by-first-none (plain line) (sym (find-plain line) ∙ (sym f ∙ rw e))

    module _ (b : Bor ℕ) (e : first ≡ Some b) where
      is-first : first_of (plain line) ≡ Some b.now
      is-first = sym (find-plain line) ∙ (sym f ∙ rw e)

      pub line-comment : b.now ≡ 35 → Ok c ≡ with_line c n (plain line)
      line-comment h = by-first-comment (plain line) (is-first ∙ ap Some h)

      module _ (h : b.now ≡ 35 → ⊥) (number : Option Decimal) (q : number ≡ read_of (plain line)) where
        by-number : with_number c n number ≡ with_line c n (plain line)
        by-number = rw q (by-first-number (plain line) b.now is-first h)

        pub line-no-number : (r : CentresError) → Err r ≡ ok_or number (CentresError.NotDecimal n) → Err r ≡ with_line c n (plain line)
        line-no-number r a = no_number number a ∙ by-number
          where
            no_number : (m : Option Decimal) → Err r ≡ ok_or m (CentresError.NotDecimal n) → Err r ≡ with_number c n m
            no_number (Some d) a = absurd (cc)
            no_number None a = cc

        pub line-number : (d : Decimal) (x : Float) → Ok d ≡ ok_or number (CentresError.NotDecimal n) → x ≡ value_of d →
            with_centre c n x ≡ with_line c n (plain line)
        line-number d x a v = a_number number a ∙ by-number
          where
            a_number : (m : Option Decimal) → Ok d ≡ ok_or m (CentresError.NotDecimal n) → with_centre c n x ≡ with_number c n m
            a_number (Some k) a = let e : d ≡ k = cc in rw (v, e)
            a_number None a = absurd (cc)

-- LAW: there are never more than 16
module _ (c : Centres) (n : ℕ) (h : c.count ≤ 16) where
  centre-few : (x : Float) → IfOk (with_centre c n x) Few
  unfolding with_centre
  centre-few x = grind (arith, nat_tests)

  number-few : (d : Option Decimal) → IfOk (with_number c n d) Few
  number-few (Some d) = centre-few (value_of d)
  number-few None = tt

  line-few : (bs : List ℕ) → IfOk (with_line c n bs) Few
  line-few [] = h
  line-few (b ∷ bs) = by_test (eqb b 35) (number-few (read_of (b ∷ bs)))
    where
      by_test : (t : Bool) → IfOk (with_number c n (read_of (b ∷ bs))) Few → IfOk (cond t (Ok c) (with_number c n (read_of (b ∷ bs)))) Few
      by_test true k = h
      by_test false k = k

after-few : (r : Result Centres CentresError) (n : ℕ) (line : List ℕ) → IfOk r Few → IfOk (after_line r n line) Few
after-few (Ok c) n line h = line-few c n h (plain line)
after-few (Err e) n line h = tt

lines-few : (r : Result Centres CentresError) (n : ℕ) (ls : List (List ℕ)) → IfOk r Few → IfOk (after_lines after_line r n ls) Few
unfolding after_lines
lines-few r n [] h = h
lines-few r n (l ∷ ls) h = lines-few (after_line r n l) (suc n) ls (after-few r n l h)

pub centres-few : (text : List ℕ) → IfOk (centres_of text) Few
unfolding centres_of
centres-few text = lines-few (Ok no_centres) 0 (lines_of text) (omega arith)
