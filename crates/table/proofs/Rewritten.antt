-- What rewriting leaves in the target, by the code's answers. Assumes nothing.
use Prim.Native.Nat.{ℕ, ◌+◌, ◌-◌, ◌≤◌, ◌<◌}
use mathlib.Core.Path.{◌≡◌, refl, ap, sym, ◌∙◌}
use mathlib.Core.List.{List, [], ◌∷◌, ◌++◌, append_assoc}
use native.Mathlib.Omega.{arith}
use lib.ListN.{length, get_or, take, drop, set, length-append, length-drop}
use lib.Seq.{take-append-le, drop-append-le, take-take, take-add, drop_at, length-take-le, sets-eq}
use borrow.Author.Tests.{le-leb, lt-leb}
use Rattle.wire.specs.Parse.{Refusal, refusal, Parsed, ok, refused}
use Rattle.table.specs.Table.{CoeffTable}
use Rattle.table.specs.Decode.{decode}
use Rattle.table.specs.Answer.{counts}
use Rattle.table.specs.Encode.{encode}
use Rattle.table.specs.Rewrite.{rewriting, rewritten}
use Rattle.table.proofs.Spelled.{piece, Again, read_again}

-- a part of a beginning is a piece
drop-take : (s : List ℕ) (a e : ℕ) → a ≤ e → e ≤ length s → drop a (take e s) ≡ piece s a e
drop-take s a e h g =
    let k : e ≡ a + (e - a) = omega arith in
    ap (λ (n : ℕ). drop a (take n s)) k
    ∙ ap (drop a) (take-add a (e - a) s)
    ∙ drop_at (take a s) (take (e - a) (drop a s)) a (length-take-le a s (omega arith))

pub length-again : (s : List ℕ) (t : CoeffTable) (e : ℕ) → Again s t e → length (encode t) ≡ e
length-again s t e w =
    let some : 6 ≤ e = w.some in
    let inside : e ≤ length s = w.inside in
    let p : length (take 4 s) ≡ 4 = length-take-le 4 s (omega arith) in
    let q : length (piece s 6 e) ≡ e - 6 = length-take-le (e - 6) (drop 6 s) (simp length-drop (omega arith)) in
    ap length w.bytes ∙ length-append (take 4 s) (1 ∷ 0 ∷ piece s 6 e) ∙ omega arith

-- the copy with its version set
stored-again : (s : List ℕ) (t : CoeffTable) (e : ℕ) (d : List ℕ) → Again s t e → e ≤ length d → set (set (take e s ++ drop e d) 4 1) 5 0 ≡ encode t ++ drop (length (encode t)) d
stored-again s t e d w h =
    let some : 6 ≤ e = w.some in
    let inside : e ≤ length s = w.inside in
    let n : length (take e s) ≡ e = length-take-le e s inside in
    let l : length (take e s ++ drop e d) ≡ length d = length-append (take e s) (drop e d) ∙ simp (n, length-drop) (omega arith) in
    sets-eq (1 ∷ 0 ∷ []) (take e s ++ drop e d) 4 (omega arith)
    ∙ rw (take-append-le 4 (take e s) (drop e d) (omega arith), take-take 4 e s (omega arith), drop-append-le 6 (take e s) (drop e d) (omega arith), drop-take s 6 e some inside, length-again s t e w, w.bytes, append_assoc, append_assoc) refl

module _ (s : List ℕ) (byte : (i : ℕ) → get_or s i 0 < 256) (d : List ℕ) where
  pub rewrite-no : (r : Refusal) → counts (decode s) ≡ refused r → (rewriting (decode s) (length d) ≡ refused r) × (rewritten (decode s) d ≡ d)
  rewrite-no r h = go (decode s) h
    where
      go : (p : Parsed CoeffTable) → counts p ≡ refused r → (rewriting p (length d) ≡ refused r) × (rewritten p d ≡ d)
      go (ok t at) k = let z : ◌≡◌ {A = ℕ} 0 1 = cc in absurd (omega arith)
      go (refused q) k = let e : q ≡ r = cc in (ap refused e, refl)

  pub rewrite-small : (n e : ℕ) → counts (decode s) ≡ ok n e → length d < e
      → (rewriting (decode s) (length d) ≡ refused (refusal 17 0 0)) × (rewritten (decode s) d ≡ d)
  rewrite-small n e h g = go (decode s) refl h
    where
      go : (p : Parsed CoeffTable) → decode s ≡ p → counts p ≡ ok n e → (rewriting p (length d) ≡ refused (refusal 17 0 0)) × (rewritten p d ≡ d)
      go (ok t at) q k =
          let x : at ≡ e = cc in
          let l : length (encode t) ≡ at = length-again s t at (read_again s byte t at q) in
          let b = lt-leb (length (encode t)) (length d) (omega arith) in
          (rw b refl, rw b refl)
      go (refused r) q k = let z : ◌≡◌ {A = ℕ} 0 1 = cc in absurd (omega arith)

  pub record Fitting (n e : ℕ) : Type 0 where
    pub some : 6 ≤ e
    pub inside : e ≤ length s
    pub answered : rewriting (decode s) (length d) ≡ ok n e
    pub written : rewritten (decode s) d ≡ set (set (take e s ++ drop e d) 4 1) 5 0

  pub rewrite-fits : (n e : ℕ) → counts (decode s) ≡ ok n e → e ≤ length d → Fitting n e
  rewrite-fits n e h g = go (decode s) refl h
    where
      go : (p : Parsed CoeffTable) → decode s ≡ p → counts p ≡ ok n e → Fitting n e
      go (ok t at) q k =
          let x : at ≡ e = cc in
          let m : length t.entries ≡ n = cc in
          let w : Again s t e = rw (← x) (read_again s byte t at q) in
          let l : length (encode t) ≡ e = length-again s t e w in
          let b = le-leb (length (encode t)) (length d) (omega arith) in
          record {
            some = w.some;
            inside = w.inside;
            answered = rw (q, b, m, l) refl;
            written = rw (q, b) (sym (stored-again s t e d w g));
          }
      go (refused r) q k = let z : ◌≡◌ {A = ℕ} 0 1 = cc in absurd (omega arith)
