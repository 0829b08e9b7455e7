-- Two tables made one: version 1, nothing after the last entry, the first one's name, and every entry of both exactly one time, ascending
-- by pitch.
use Rattle.std.specs.Prelude.{ℕ, ◌≡◌, List, ◌++◌, cond, length, drop, leb}
use Rattle.wire.specs.Parse.{Refusal, refusal, Parsed, ok, refused}
use Rattle.table.specs.Table.{PitchEntry, CoeffTable}
use Rattle.table.specs.Span.{consistent, agrees}
use Rattle.table.specs.Decode.{max_image}
use Rattle.table.specs.Encode.{encode}
use Rattle.merging.specs.Order.{pitch_rank, Arranged, Ascending}

-- a table of the first one's name with some entries, as it is read again: version 1
abbrev pub with_entries : CoeffTable → List PitchEntry → CoeffTable
with_entries t es = record { version = 1; name = t.name; entries = es }

-- a list of both tables' entries: every one of both exactly one time, ascending by pitch. Entries of equal pitch may stand in either order
pub record Merged (t u : CoeffTable) (es : List PitchEntry) : Type 0 where
  pub every : Arranged (t.entries ++ u.entries) es
  pub ascending : Ascending pitch_rank es

-- the entries of both as they stand, the second's after the first's: what is asked goes by them, since nothing of it turns on their order
abbrev pub joined : CoeffTable → CoeffTable → CoeffTable
joined t u = with_entries t (t.entries ++ u.entries)

-- what a merge answers: the entry count and the bytes written; or why nothing was written
pub data MergeOutcome : Type 0 where
  written : ℕ → ℕ → MergeOutcome
  first_refused : Refusal → MergeOutcome  -- the first image's questions 1 to 7
  second_refused : Refusal → MergeOutcome  -- the second image's
  merge_refused : Refusal → MergeOutcome  -- 21 to 23, of the two together

-- 21: does the joined list answer question 7 with yes? 22: is the result at most 65,536 bytes? 23: do n bytes hold it?
abbrev pub joined_outcome : CoeffTable → ℕ → MergeOutcome
joined_outcome j n =
    cond (agrees (consistent j.entries))
    (cond (leb (length (encode j)) max_image)
    (cond (leb (length (encode j)) n)
    (written (length j.entries) (length (encode j)))
    (merge_refused (refusal 23 0 0)))
    (merge_refused (refusal 22 0 0)))
    (merge_refused (refusal 21 0 0))

-- the answer for two images, as they are read, and a target of n bytes
abbrev pub merging : Parsed CoeffTable → Parsed CoeffTable → ℕ → MergeOutcome
merging (refused r) u n = first_refused r
merging (ok t e) (refused r) n = second_refused r
merging (ok t e) (ok u f) n = joined_outcome (joined t u) n

-- the target afterwards: the image of a table with the list of both, then its own bytes
pub record MergedInto (t u : CoeffTable) (before after : List ℕ) : Type 0 where
  pub entries : List PitchEntry
  pub merged : Merged t u entries
  pub bytes : after ≡ encode (with_entries t entries) ++ drop (length (encode (with_entries t entries))) before

-- the target by the outcome: that image where it was written; where anything was refused, the target is as it was
abbrev pub LeftBy : MergeOutcome → CoeffTable → CoeffTable → List ℕ → List ℕ → Type 0
LeftBy (written n bytes) t u before after = MergedInto t u before after
LeftBy (first_refused r) t u before after = after ≡ before
LeftBy (second_refused r) t u before after = after ≡ before
LeftBy (merge_refused r) t u before after = after ≡ before

-- what a merge of two images, as they are read, leaves of a target: there is a table of both only where both were accepted
abbrev pub MergeLeaves : Parsed CoeffTable → Parsed CoeffTable → List ℕ → List ℕ → Type 0
MergeLeaves (refused r) u before after = after ≡ before
MergeLeaves (ok t e) (refused r) before after = after ≡ before
MergeLeaves (ok t e) (ok u f) before after = LeftBy (joined_outcome (joined t u) (length before)) t u before after
