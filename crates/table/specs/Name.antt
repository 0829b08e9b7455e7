-- Where the name of an image stands, and what it is that a part of a slice starts somewhere.
use Rattle.std.specs.Prelude.{ℕ, ◌+◌, ◌≡◌, List}
use Rattle.std.specs.Borrow.{Bor}
use Rattle.wire.specs.Parse.{Parsed, ok, refused}
use Rattle.table.specs.Table.{CoeffTable}

-- a part lies in the slice's own memory, k bytes after its start
abbrev pub StartsAt : Bor (List ℕ) → ℕ → Bor (List ℕ) → Type 0
StartsAt s k part = (part.ref_ptr.0 ≡ s.ref_ptr.0) × (part.ref_ptr.1 ≡ s.ref_ptr.1 + k)

-- the name starts past the mark (4 bytes), the version (2) and its own length (4); 0 where the image is refused
abbrev pub name_start : Parsed CoeffTable → ℕ
name_start (ok t end) = 10
name_start (refused r) = 0
