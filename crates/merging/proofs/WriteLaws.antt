-- An entry's bytes are the piece of the image where it stands. Assumes nothing but that an image's bytes are below 256.
use Prim.Native.Nat.{ℕ, ◌+◌, ◌-◌, ◌≤◌}
use mathlib.Core.Path.{◌≡◌, refl, ap, sym, ◌∙◌}
use mathlib.Core.List.{List}
use native.Mathlib.Omega.{arith}
use lib.ListN.{length, take, drop}
use borrow.Author.Tests.{le-leb}
use Rattle.wire.specs.Parse.{ok}
use Rattle.wire.specs.Cursor.{u32}
use Rattle.wire.proofs.Found.{u32-is}
use Rattle.wire.proofs.Many.{went}
use Rattle.table.specs.Table.{PitchEntry}
use Rattle.table.specs.Image.{entry}
use Rattle.table.specs.Size.{entry_size}
use Rattle.table.specs.Encode.{put_entry}
use Rattle.table.proofs.SizeLaws.{entry-end}
use Rattle.table.proofs.Spelled.{spelled-entry}
use Rattle.table.proofs.RoundTrip.{Bytes}
use Rattle.merging.specs.inner.Keys.{piece_at}

-- a piece that is there
pub piece-there : (s : List ℕ) (at n : ℕ) → at + n ≤ length s → piece_at s at n ≡ take n (drop at s)
piece-there s at n h = rw (le-leb (at + n) (length s) h) refl

-- an entry's bytes are the piece where it stands
entry-there : (i : ℕ) (s : List ℕ) (at e : ℕ) (a : PitchEntry) → entry i s at ≡ ok a e → at ≤ length s
unfolding entry
entry-there i s at e a h =
    went (u32 s at) _ a e h λ f m₁ g₁ h₁.
    let v = u32-is s at f m₁ g₁ in
    let there : at + 4 ≤ length s = v.there in
    omega arith

pub entry-piece : (s : List ℕ) → Bytes s → (i at e : ℕ) (a : PitchEntry) → entry i s at ≡ ok a e → piece_at s at (entry_size a) ≡ put_entry a
entry-piece s byte i at e a h =
    let w = spelled-entry s byte i at e a h in
    let r : e ≤ length s = w.inside (entry-there i s at e a h) in
    let z : e ≡ at + entry_size a = entry-end i s at e a h in
    let n : e - at ≡ entry_size a = omega arith in
    piece-there s at (entry_size a) (omega arith) ∙ ap (λ (d : ℕ). take d (drop at s)) (sym n) ∙ sym w.bytes
