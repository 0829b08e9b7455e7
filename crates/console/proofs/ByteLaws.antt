-- Centres read byte after byte, where of a line only what its bytes so far come to is kept: the same as line by line. Assumes nothing.
use Rattle.std.proofs.Common.{◌≡◌, ℕ, suc, ◌+◌, Bool, true, false, cond, eqb, List, [], ◌∷◌, length, Option, Some, None, Result, Ok, Err, refl, ap, ◌∙◌, add-one, arith, lt-ltb}
use Rattle.std.specs.Option.{option_and_then}
use Rattle.std.specs.List.{onto_first}
use Rattle.console.specs.declared.decimal.Scan.{Scan}
use Rattle.console.specs.declared.centres.Centres.{Centres}
use Rattle.console.specs.declared.centres.CentresError.{CentresError}
use Rattle.console.specs.Decimal.{start_scan, next_scan, scanned, concluded, read_of}
use Rattle.console.specs.Pieces.{lines_of, after_lines}
use Rattle.console.specs.Centres.{plain, no_centres, with_number, with_line, after_line, centres_of}

-- what the bytes of a line so far come to
pub record Line : Type 0 where
  pub started : Bool
  pub comment : Bool
  pub minus : Bool
  pub scan : Option Scan

-- a line of which nothing stands yet
abbrev pub start_line : Line
start_line = record { started = false; comment = false; minus = false; scan = Some start_scan }

abbrev pub comment_line : Line
comment_line = record { started = true; comment = true; minus = false; scan = Some start_scan }

-- a line that is to be a number
abbrev pub number_line : Bool → Option Scan → Line
number_line minus scan = record { started = true; comment = false; minus = minus; scan = scan }

-- the first byte: # (35), a minus sign (45), or part of a number
unfoldable pub first_line : ℕ → Line
first_line b = cond (eqb b 35) comment_line (cond (eqb b 45) (number_line true (Some start_scan)) (number_line false (next_scan start_scan b)))

-- one byte more; a carriage return (13) and the rest of a comment are passed over
unfoldable pub longer_line : Line → ℕ → Line
longer_line l b =
    cond (eqb b 13) l
    (cond l.comment l
    (cond l.started (number_line l.minus (option_and_then (λ s. next_scan s b) l.scan)) (first_line b)))

abbrev pub line_said : Centres → ℕ → Line → Result Centres CentresError
line_said c n l = cond l.comment (Ok c) (cond l.started (with_number c n (option_and_then (concluded l.minus) l.scan)) (Ok c))

-- the line ends
abbrev pub line_ended : Result Centres CentresError → ℕ → Line → Result Centres CentresError
line_ended (Ok c) n l = line_said c n l
line_ended (Err e) n l = Err e

-- the centres of the lines that ended, how many these were, and the line at hand
pub record Reader : Type 0 where
  pub centres : Result Centres CentresError
  pub above : ℕ
  pub line : Line

abbrev pub start_reader : Reader
start_reader = record { centres = Ok no_centres; above = 0; line = start_line }

-- one byte more: a line feed (10) ends the line
unfoldable pub next_reader : Reader → ℕ → Reader
next_reader r b =
    cond (eqb b 10)
    (record { centres = line_ended r.centres r.above r.line; above = r.above + 1; line = start_line })
    (record { centres = r.centres; above = r.above; line = longer_line r.line b })

unfoldable pub read_on : Reader → List ℕ → Result Centres CentresError
read_on r [] = line_ended r.centres r.above r.line
read_on r (b ∷ bs) = read_on (next_reader r b) bs

-- ---- both answers of a test
either : {A : Type 0} (t : Bool) (a : A) → cond t a a ≡ a
either true a = refl
either false a = refl

both : (P : Bool → Type 0) (t : Bool) → P true → P false → P t
both P true x y = x
both P false x y = y

-- ---- the bytes of a line in turn
unfoldable lined : Line → List ℕ → Line
lined l [] = l
lined l (b ∷ bs) = lined (longer_line l b) bs

-- a comment stays one
lined-comment : (bs : List ℕ) → lined comment_line bs ≡ comment_line
unfolding lined longer_line
lined-comment [] = refl
lined-comment (b ∷ bs) = rw (either (eqb b 13) comment_line) (lined-comment bs)

-- a number takes up the bytes but for carriage returns
lined-number : (m : Bool) (s : Option Scan) (bs : List ℕ) → lined (number_line m s) bs ≡ number_line m (scanned s (plain bs))
unfolding lined longer_line plain scanned
lined-number m s [] = refl
lined-number m s (b ∷ bs) =
    let t = option_and_then (λ u. next_scan u b) s in
    both (λ x. lined (cond x (number_line m s) (number_line m t)) bs ≡ number_line m (scanned s (cond x (plain bs) (b ∷ plain bs))))
    (eqb b 13) (lined-number m s bs) (lined-number m t bs)

-- a line that is to be a number comes to the decimal number that it spells
module _ (c : Centres) (n : ℕ) where
  said-number : (b : ℕ) (bs : List ℕ) →
      line_said c n (lined (cond (eqb b 45) (number_line true (Some start_scan)) (number_line false (next_scan start_scan b))) bs)
      ≡ with_number c n (read_of (b ∷ plain bs))
  unfolding read_of scanned
  said-number b bs =
      rw (lt-ltb 0 (length (b ∷ plain bs)) (omega arith))
      (both (λ t.
      line_said c n (lined (cond t (number_line true (Some start_scan)) (number_line false (next_scan start_scan b))) bs)
      ≡ with_number c n (cond t (option_and_then (concluded true) (scanned (Some start_scan) (plain bs)))
      (option_and_then (concluded false) (scanned (next_scan start_scan b) (plain bs)))))
      (eqb b 45) (rw lined-number refl) (rw lined-number refl))

  said-first : (b : ℕ) (bs : List ℕ) → line_said c n (lined (first_line b) bs) ≡ with_line c n (b ∷ plain bs)
  unfolding first_line
  said-first b bs =
      both (λ t.
      line_said c n (lined (cond t comment_line (cond (eqb b 45) (number_line true (Some start_scan)) (number_line false (next_scan start_scan b)))) bs)
      ≡ cond t (Ok c) (with_number c n (read_of (b ∷ plain bs))))
      (eqb b 35) (rw lined-comment refl) (said-number b bs)

  said-line : (bs : List ℕ) → line_said c n (lined start_line bs) ≡ with_line c n (plain bs)
  unfolding lined longer_line plain
  said-line [] = refl
  said-line (b ∷ bs) =
      both (λ t. line_said c n (lined (cond t start_line (first_line b)) bs) ≡ with_line c n (cond t (plain bs) (b ∷ plain bs)))
      (eqb b 13) (said-line bs) (said-first b bs)

-- a whole line
ended-line : (c : Result Centres CentresError) (n : ℕ) (bs : List ℕ) → line_ended c n (lined start_line bs) ≡ after_line c n bs
ended-line (Ok c) n bs = said-line c n bs
ended-line (Err e) n bs = refl

ended-start : (c : Result Centres CentresError) (n : ℕ) → line_ended c n start_line ≡ c
ended-start (Ok c) n = refl
ended-start (Err e) n = refl

-- ---- the lines that follow, the first of them begun
unfoldable resumed : Result Centres CentresError → ℕ → Line → List (List ℕ) → Result Centres CentresError
resumed c n l [] = line_ended c n l
resumed c n l (x ∷ xs) = after_lines after_line (line_ended c n (lined l x)) (suc n) xs

resumed-start : (c : Result Centres CentresError) (n : ℕ) (ls : List (List ℕ)) → resumed c n start_line ls ≡ after_lines after_line c n ls
unfolding after_lines resumed
resumed-start c n [] = ended-start c n
resumed-start c n (x ∷ xs) = rw (ended-line c n x) refl

resumed-front : (c : Result Centres CentresError) (n : ℕ) (l : Line) (b : ℕ) (ls : List (List ℕ)) → resumed c n (longer_line l b) ls ≡ resumed c n l (onto_first b ls)
unfolding after_lines lined resumed
resumed-front c n l b [] = refl
resumed-front c n l b (x ∷ xs) = refl

read-on-resumed : (c : Result Centres CentresError) (n : ℕ) (l : Line) (text : List ℕ) →
    read_on (record { centres = c; above = n; line = l }) text ≡ resumed c n l (lines_of text)
unfolding read_on next_reader after_lines lined resumed
read-on-resumed c n l [] = refl
read-on-resumed c n l (b ∷ bs) =
    both (λ t.
    read_on (cond t (record { centres = line_ended c n l; above = n + 1; line = start_line }) (record { centres = c; above = n; line = longer_line l b })) bs
    ≡ resumed c n l (cond t ([] ∷ lines_of bs) (onto_first b (lines_of bs))))
    (eqb b 10)
    (read-on-resumed (line_ended c n l) (n + 1) start_line bs ∙ resumed-start (line_ended c n l) (n + 1) (lines_of bs)
    ∙ ap (λ (k : ℕ). after_lines after_line (line_ended c n l) k (lines_of bs)) (add-one n))
    (read-on-resumed c n (longer_line l b) bs ∙ resumed-front c n l b (lines_of bs))

-- LAW: read byte after byte a text comes to what its lines say
pub read-on-is : (text : List ℕ) → read_on start_reader text ≡ centres_of text
unfolding centres_of
read-on-is text = read-on-resumed (Ok no_centres) 0 start_line text ∙ resumed-start (Ok no_centres) 0 (lines_of text)
