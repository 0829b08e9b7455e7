-- Where the entries of an accepted image stand. Cited by private functions only.
use Rattle.std.specs.Prelude.{ℕ, ◌+◌, ◌≡◌, List, length}
use Rattle.wire.specs.Parse.{ok}
use Rattle.table.specs.Decode.{decode, name_of}
use Rattle.table.specs.Answer.{counts}
use Rattle.merging.specs.declared.extent.Extent.{Extent}

pub record AcceptedAt (s : List ℕ) (x : Extent) : Type 0 where
  pub accepted : counts (decode s) ≡ ok x.count x.end
  pub start : x.at ≡ 14 + length (name_of (decode s))
