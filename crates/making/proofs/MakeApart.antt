-- Each answer of `make` is told by its refusal's number and values, but for the voice of one that is accepted: what its contract says of an
-- answer fixes it. Assumes nothing.
use Prim.Native.Nat.{ℕ}
use mathlib.Core.Bool.{true, false, true≢false, cond}
use mathlib.Core.Path.{◌≡◌, refl, ap, sym, ◌∙◌}
use lib.Dec.{eqb}
use Rattle.std.specs.Prelude.{Result, Ok, Err}
use Rattle.wire.specs.Parse.{Refusal, refusal}
use Rattle.table.specs.declared.error.CoeffTableCodecError.{CoeffTableCodecError}
use Rattle.making.specs.declared.error.MakeError.{MakeError}
use Rattle.voice.specs.declared.voice.Voice.{Voice}
use Rattle.making.specs.Answer.{make_refusal, made_of}
use Rattle.making.proofs.CoeffLaws.{error-number}

-- the refusal with a number and its values
abbrev error_of : Refusal → MakeError
error_of r =
    cond (eqb r.number 1) (MakeError.Refused CoeffTableCodecError.TooLong)
    (cond (eqb r.number 2) (MakeError.Refused CoeffTableCodecError.UnexpectedEof)
    (cond (eqb r.number 3) (MakeError.Refused CoeffTableCodecError.BadMagic)
    (cond (eqb r.number 4) (MakeError.Refused (CoeffTableCodecError.UnsupportedVersion r.first))
    (cond (eqb r.number 5) (MakeError.Refused CoeffTableCodecError.BadUtf8)
    (cond (eqb r.number 6) (MakeError.Refused (CoeffTableCodecError.MalformedEntry r.first))
    (cond (eqb r.number 7) (MakeError.Refused (CoeffTableCodecError.InconsistentNoiseBandSpan r.first r.second))
    (cond (eqb r.number 8) MakeError.TooLarge
    (cond (eqb r.number 9) (MakeError.BadEntry r.first)
    (cond (eqb r.number 10) MakeError.NoChannel
    (cond (eqb r.number 11) MakeError.BadRate
    MakeError.BadCentres))))))))))

error_back : (a : MakeError) → error_of (make_refusal a) ≡ a
error_back (MakeError.Refused CoeffTableCodecError.TooLong) = refl
error_back (MakeError.Refused CoeffTableCodecError.UnexpectedEof) = refl
error_back (MakeError.Refused CoeffTableCodecError.BadMagic) = refl
error_back (MakeError.Refused (CoeffTableCodecError.UnsupportedVersion v)) = refl
error_back (MakeError.Refused CoeffTableCodecError.BadUtf8) = refl
error_back (MakeError.Refused (CoeffTableCodecError.MalformedEntry i)) = refl
error_back (MakeError.Refused (CoeffTableCodecError.InconsistentNoiseBandSpan f i)) = refl
error_back MakeError.TooLarge = refl
error_back (MakeError.BadEntry i) = refl
error_back MakeError.NoChannel = refl
error_back MakeError.BadRate = refl
error_back MakeError.BadCentres = refl

pub make-errors-apart : (a b : MakeError) → make_refusal a ≡ make_refusal b → a ≡ b
make-errors-apart a b e = sym (error_back a) ∙ ap error_of e ∙ error_back b

-- a refusal's number is none of an answer that refuses nothing
numbered : (e : MakeError) (r : Refusal) → make_refusal e ≡ r → r.number ≡ 0 → ⊥
numbered e r p z = let q : false ≡ true = sym (error-number e) ∙ ap (λ (r : Refusal). eqb r.number 0) p ∙ ap (λ (n : ℕ). eqb n 0) z in absurd (true≢false (sym q))

-- an answer without its voice
abbrev pub voiceless : Result Voice MakeError → Result (Unit {0}) MakeError
voiceless (Ok v) = Ok tt
voiceless (Err e) = Err e

-- LAW: of two answers whose refusals are the same (number and values, 0 of one that refuses nothing), both are accepted or both are that
-- refusal; and where their voices are the same too, they are one answer.
pub make-answers-apart : (a b : Result Voice MakeError) → (made_of a).refusal ≡ (made_of b).refusal
    → (voiceless a ≡ voiceless b) × ((made_of a).voice ≡ (made_of b).voice → a ≡ b)
make-answers-apart (Ok v) (Ok w) e = (refl, λ q. ap Ok q)
make-answers-apart (Ok v) (Err d) e = absurd (numbered d (refusal 0 0 0) (sym e) refl)
make-answers-apart (Err d) (Ok w) e = absurd (numbered d (refusal 0 0 0) e refl)
make-answers-apart (Err c) (Err d) e = (ap Err (make-errors-apart c d e), λ q. ap Err (make-errors-apart c d e))
