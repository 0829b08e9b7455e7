-- A merge's answer as it crosses to C: the numbers, and which image they speak of.
use Rattle.merging.specs.Merge.{MergeOutcome, written, first_refused, second_refused, merge_refused}
use Rattle.sounder.specs.Answer.{refusal_answer, done}
use Rattle.sounder.specs.declared.merges.MergeAnswer.{MergeAnswer}

abbrev pub merge_answer : MergeOutcome → MergeAnswer
merge_answer (written n bytes) = record { answer = done n bytes; image = 0 }
merge_answer (first_refused r) = record { answer = refusal_answer r; image = 1 }
merge_answer (second_refused r) = record { answer = refusal_answer r; image = 2 }
merge_answer (merge_refused r) = record { answer = refusal_answer r; image = 0 }
