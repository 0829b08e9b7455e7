-- Rewriting an image into a target: questions 1 to 7 of the image, then question 17, does the target hold the rewritten image?
use Rattle.std.specs.Prelude.{ℕ, List, ◌++◌, Bool, cond, length, drop, leb, Result, Ok, Err}
use Rattle.wire.specs.Parse.{Refusal, refusal, Parsed, ok, refused}
use Rattle.table.specs.declared.rewrite.Written.{Written}
use Rattle.table.specs.declared.rewrite.RewriteError.{RewriteError}
use Rattle.table.specs.Table.{CoeffTable}
use Rattle.table.specs.Answer.{refusal_of}
use Rattle.table.specs.Encode.{encode}

abbrev pub holds : CoeffTable → ℕ → Bool
holds t n = leb (length (encode t)) n

-- the answer, for a target of n bytes: the entry count and the bytes written, or the refusal
abbrev pub rewriting : Parsed CoeffTable → ℕ → Parsed ℕ
rewriting (ok t end) n = cond (holds t n) (ok (length t.entries) (length (encode t))) (refused (refusal 17 0 0))
rewriting (refused r) n = refused r

-- the target afterwards: the rewritten image, then its own bytes; where it was refused, as it was
abbrev pub rewritten : Parsed CoeffTable → List ℕ → List ℕ
rewritten (ok t end) target = cond (holds t (length target)) (encode t ++ drop (length (encode t)) target) target
rewritten (refused r) target = target

abbrev pub rewrite_refusal : RewriteError → Refusal
rewrite_refusal (RewriteError.Refused e) = refusal_of e
rewrite_refusal RewriteError.TargetTooShort = refusal 17 0 0

abbrev pub rewriting_parsed : Result Written RewriteError → Parsed ℕ
rewriting_parsed (Ok w) = ok w.entries w.bytes
rewriting_parsed (Err e) = refused (rewrite_refusal e)
