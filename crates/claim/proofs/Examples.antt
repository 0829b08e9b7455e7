-- P1 to P11, proved together. Assumes nothing.
use Prim.Native.Nat.{ℕ, ◌<◌}
use mathlib.Core.Path.{◌≡◌, refl}
use mathlib.Core.List.{List, [], ◌++◌}
use native.Mathlib.Omega.{arith}
use lib.ListN.{length, length-append}
use lib.Seq.{drop_at}
use borrow.Author.Tests.{le-leb, lt-leb}
use Rattle.wire.specs.Parse.{refusal, ok, refused, many}
use Rattle.wire.specs.Cursor.{take_at, u16, u32, string_of, string}
use Rattle.wire.specs.Utf8.{lead, octet, octets}
use Rattle.table.specs.Table.{CoeffTable, same, metadata_value}
use Rattle.table.specs.Image.{counted, pair, entry, header}
use Rattle.table.specs.Span.{agree}
use Rattle.table.specs.Decode.{decode}
use Rattle.table.specs.Encode.{put_all, put_pair, put_entry, encode}
use Rattle.table.specs.Rewrite.{rewriting, rewritten}
use Rattle.table.proofs.Bench as read
use Rattle.player.proofs.Bench as sound
use Rattle.claim.specs.Bench.{Bench}

-- a target that holds the rewritten image, with bytes beyond it, and one that is too short
target-holds : (t : CoeffTable) (end : ℕ) (target beyond : List ℕ) → length target ≡ length (encode t)
    → (rewriting (ok t end) (length (target ++ beyond)) ≡ ok (length t.entries) (length (encode t))) × (rewritten (ok t end) (target ++ beyond) ≡ encode t ++ beyond)
target-holds t end target beyond e =
    let n = length (encode t) in
    let l = length-append target beyond in
    let h = le-leb n (length (target ++ beyond)) (omega arith) in
    (rw h, rw (h, drop_at target beyond n e))

target-short : (t : CoeffTable) (end : ℕ) (target : List ℕ) → length target < length (encode t)
    → (rewriting (ok t end) (length target) ≡ refused (refusal 17 0 0)) × (rewritten (ok t end) target ≡ target)
target-short t end target h = let k = lt-leb (length (encode t)) (length target) h in (rw k, rw k)

-- the table of P6
abbrev nothing : CoeffTable
nothing = record { version = 0; name = []; entries = [] }

pub bench : Bench
unfolding decode header take_at u16 u32 string_of string lead octet octets counted pair entry many same metadata_value agree encode put_all put_pair put_entry
bench = record {
  p1 = read.p1;
  p2 = refl;
  p3 = read.p3;
  p4 = read.p4;
  p5 = read.p5;
  p6 = target-holds nothing 14;
  p6-short = λ target e. let h : length target < 14 = omega arith in target-short nothing 14 target h;
  p7 = ((sound.p7).at-0, (sound.p7).at_1, (sound.p7).at-64, (sound.p7).at-128, (sound.p7).at-256);
  p8 = sound.p8;
  p9 = ((sound.p9).state, (sound.p9).value);
  p10 = ((sound.p10).at-100, (sound.p10).at-200, (sound.p10).at-300, (sound.p10).at-400);
  p11 = sound.p11;
}
