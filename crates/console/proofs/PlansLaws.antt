-- Laws on the words of a line of a text of windows. Assumes nothing.
use Rattle.std.proofs.Common.{◌≡◌, ℕ, ◌<◌, List, [], ◌∷◌, length, Result, Ok, refl, arith}
use Rattle.std.specs.List.{fold}
use Rattle.console.specs.declared.plans.Line.{Line}
use Rattle.console.specs.declared.plans.Reason.{Reason}
use Rattle.console.specs.Plans.{next_word, after_word, after_piece, after_words}

-- what stands between two blanks, empty or not
pub after_none : (l : Line) (w : List ℕ) → length w ≡ 0 → after_word l w ≡ Ok l
unfolding after_word
after_none l [] h = refl
after_none l (b ∷ w) h = absurd (omega arith)

pub after_some : (l : Line) (w : List ℕ) → 0 < length w → after_word l w ≡ next_word l w
unfolding after_word
after_some l [] n = absurd (omega arith)
after_some l (b ∷ w) n = refl

pub ruleset word_or_none = (after_none, after_some)

-- what the pieces of a line come to in turn
pub words_folded : (l : Result Line Reason) (ws : List (List ℕ)) → fold after_piece l ws ≡ after_words l ws
unfolding after_words
words_folded l [] = refl
words_folded l (w ∷ ws) = words_folded (after_piece l w) ws
