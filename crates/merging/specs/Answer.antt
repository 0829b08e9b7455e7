-- What the code's answers mean.
use Rattle.std.specs.Prelude.{Result, Ok, Err}
use Rattle.wire.specs.Parse.{refusal}
use Rattle.table.specs.Answer.{refusal_of}
use Rattle.table.specs.declared.rewrite.Written.{Written}
use Rattle.merging.specs.declared.tables.MergeError.{MergeError}
use Rattle.merging.specs.Merge.{MergeOutcome, written, first_refused, second_refused, merge_refused}

abbrev pub refused_outcome : MergeError → MergeOutcome
refused_outcome (MergeError.First e) = first_refused (refusal_of e)
refused_outcome (MergeError.Second e) = second_refused (refusal_of e)
refused_outcome MergeError.InconsistentSpans = merge_refused (refusal 21 0 0)
refused_outcome MergeError.TooLong = merge_refused (refusal 22 0 0)
refused_outcome MergeError.TargetTooShort = merge_refused (refusal 23 0 0)

abbrev pub merging_outcome : Result Written MergeError → MergeOutcome
merging_outcome (Ok w) = written w.entries w.bytes
merging_outcome (Err e) = refused_outcome e
