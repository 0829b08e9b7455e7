-- The bench examples, and images of the same kind: what the definitions answer to them. Assumes nothing.
use mathlib.Core.Path.{◌≡◌, refl}
use Prim.Native.Nat.{ℕ}
use mathlib.Core.List.{List, [], ◌∷◌, ◌++◌}
use lib.ListN.{drop, replicate}
use lib.Ieee.{eq, of_bits, of_fields}
use Rattle.wire.specs.Parse.{refusal, ok, refused, many}
use Rattle.wire.specs.Cursor.{take_at, u16, u32, string_of, string}
use Rattle.wire.specs.Utf8.{lead, octet, octets}
use Rattle.table.specs.Table.{same, metadata_value}
use Rattle.table.specs.Image.{counted, pair, entry, header}
use Rattle.table.specs.Span.{min_key, max_key, float_eq, agree}
use Rattle.table.specs.Decode.{decode}
use Rattle.table.specs.Answer.{counts}
use Rattle.table.specs.Encode.{put_u16, put_u32, put_str, put_all, put_pair, put_entry, encode}
use Rattle.table.specs.Rewrite.{rewriting, rewritten}

-- ---- the pieces of an image; a number is written from its low byte on
-- "MSCT"
abbrev mark_bytes : List ℕ
mark_bytes = 0x4D ∷ 0x53 ∷ 0x43 ∷ 0x54 ∷ []

-- the mark, a version, an empty name, and how many entries follow
abbrev headed : ℕ → ℕ → List ℕ
headed version count = mark_bytes ++ put_u16 version ++ put_u32 0 ++ put_u32 count

-- an entry begins: pitch 0, stretch 0, and how many partial frequencies follow
abbrev pitched : ℕ → List ℕ
pitched count = put_u32 0 ++ put_u32 0 ++ put_u32 count

-- it goes on: its channels, its bands, and how many coefficients follow
abbrev row_counts : ℕ → ℕ → ℕ → List ℕ
row_counts channels bands count = put_u32 channels ++ put_u32 bands ++ put_u32 count

-- an entry of no partial frequency, channel, band or coefficient, and how many pairs follow
abbrev bare : ℕ → List ℕ
bare pairs = pitched 0 ++ row_counts 0 0 0 ++ put_u32 pairs

-- the pair of a span's lower end, and of its upper end, by the bits of the float: 42A00000 is 80, 463B8000 is 12,000, 7FC00000 is a NaN, 80000000 is -0
abbrev lower_end : ℕ → List ℕ
lower_end bits = put_str min_key ++ put_u32 bits

abbrev upper_end : ℕ → List ℕ
upper_end bits = put_str max_key ++ put_u32 bits

-- two entries with the spans 0 to 0 and -0 to 0
abbrev two_zeros : List ℕ
two_zeros = bare 2 ++ lower_end 0 ++ upper_end 0 ++ bare 2 ++ lower_end 0x80000000 ++ upper_end 0

-- ---- what is answered
-- P1: the mark, version 1, an empty name and no entries
pub p1 : counts (decode (headed 1 0)) ≡ ok 0 14
unfolding decode header take_at u16 u32 string string_of octets octet lead counted pair entry many same metadata_value agree float_eq
p1 = refl

-- P2: version 2
pub p2 : counts (decode (mark_bytes ++ put_u16 2)) ≡ refused (refusal 4 2 0)
unfolding decode header take_at u16 u32 string string_of octets octet lead counted pair entry many same metadata_value agree float_eq
p2 = refl

-- P3: the first three bytes of the mark
pub p3 : counts (decode (0x4D ∷ 0x53 ∷ 0x43 ∷ [])) ≡ refused (refusal 2 0 0)
unfolding decode header take_at u16 u32 string string_of octets octet lead counted pair entry many same metadata_value agree float_eq
p3 = refl

-- P4: another first byte
pub p4 : counts (decode (0x4E ∷ drop 1 (headed 1 0))) ≡ refused (refusal 3 0 0)
unfolding decode header take_at u16 u32 string string_of octets octet lead counted pair entry many same metadata_value agree float_eq
p4 = refl

-- P5: a name of one byte, FF
pub p5 : counts (decode (mark_bytes ++ put_u16 1 ++ put_u32 1 ++ 0xFF ∷ [])) ≡ refused (refusal 5 0 0)
unfolding decode header take_at u16 u32 string string_of octets octet lead counted pair entry many same metadata_value agree float_eq
p5 = refl

-- a name of 2^32 - 1 bytes in a short image
pub long-name : counts (decode (mark_bytes ++ put_u16 1 ++ put_u32 0xFFFFFFFF ++ 0x41 ∷ [])) ≡ refused (refusal 2 0 0)
unfolding decode header take_at u16 u32 string string_of octets octet lead counted pair entry many same metadata_value agree float_eq
long-name = refl

-- 2^32 - 1 entries, of which none is there
pub many-entries : counts (decode (headed 1 0xFFFFFFFF)) ≡ refused (refusal 2 0 0)
unfolding decode header take_at u16 u32 string string_of octets octet lead counted pair entry many same metadata_value agree float_eq
many-entries = refl

-- 2^32 - 1 partial frequencies
pub many-partials : counts (decode (headed 1 1 ++ pitched 0xFFFFFFFF ++ put_u32 1)) ≡ refused (refusal 2 0 0)
unfolding decode header take_at u16 u32 string string_of octets octet lead counted pair entry many same metadata_value agree float_eq
many-partials = refl

-- 2^32 - 1 coefficients
pub many-coefficients : counts (decode (headed 1 1 ++ pitched 0 ++ row_counts 0 0 0xFFFFFFFF ++ put_u32 1)) ≡ refused (refusal 2 0 0)
unfolding decode header take_at u16 u32 string string_of octets octet lead counted pair entry many same metadata_value agree float_eq
many-coefficients = refl

-- 2^32 - 1 pairs
pub many-pairs : counts (decode (headed 1 1 ++ bare 0xFFFFFFFF)) ≡ refused (refusal 2 0 0)
unfolding decode header take_at u16 u32 string string_of octets octet lead counted pair entry many same metadata_value agree float_eq
many-pairs = refl

-- a key of 2^32 - 1 bytes
pub long-key : counts (decode (headed 1 1 ++ bare 1 ++ put_u32 0xFFFFFFFF ++ 0x41 ∷ [])) ≡ refused (refusal 2 0 0)
unfolding decode header take_at u16 u32 string string_of octets octet lead counted pair entry many same metadata_value agree float_eq
long-key = refl

-- an entry of nothing, and a byte after it that is not looked at
pub one_entry : counts (decode (headed 1 1 ++ bare 0 ++ 9 ∷ [])) ≡ ok 1 42
unfolding decode header take_at u16 u32 string string_of octets octet lead counted pair entry many same metadata_value agree float_eq
one_entry = refl

-- one channel and one band, but no coefficient, in the second entry
pub malformed : counts (decode (headed 1 2 ++ bare 0 ++ pitched 0 ++ row_counts 1 1 0 ++ put_u32 0)) ≡ refused (refusal 6 1 0)
unfolding decode header take_at u16 u32 string string_of octets octet lead counted pair entry many same metadata_value agree float_eq
malformed = refl

-- 2^16 channels of 2^16 bands: the product is 2^32, not 0
pub wide_rows : counts (decode (headed 1 1 ++ pitched 0 ++ row_counts 0x10000 0x10000 0 ++ put_u32 0)) ≡ refused (refusal 6 0 0)
unfolding decode header take_at u16 u32 string string_of octets octet lead counted pair entry many same metadata_value agree float_eq
wide_rows = refl

-- a lone key of the span in the second entry
pub lone-key : counts (decode (headed 1 2 ++ bare 0 ++ bare 1 ++ lower_end 0x42A00000)) ≡ refused (refusal 7 1 1)
unfolding decode header take_at u16 u32 string string_of octets octet lead counted pair entry many same metadata_value agree float_eq
lone-key = refl

-- a span in the first entry only
pub span-missing : counts (decode (headed 1 2 ++ bare 2 ++ lower_end 0x42A00000 ++ upper_end 0x463B8000 ++ bare 0)) ≡ refused (refusal 7 0 1)
unfolding decode header take_at u16 u32 string string_of octets octet lead counted pair entry many same metadata_value agree float_eq
span-missing = refl

-- a NaN span in the only entry: there is nothing to compare it with
pub nan-alone : counts (decode (headed 1 1 ++ bare 2 ++ lower_end 0x7FC00000 ++ upper_end 0x7FC00000)) ≡ ok 1 92
unfolding decode header take_at u16 u32 string string_of octets octet lead counted pair entry many same metadata_value agree float_eq
nan-alone = refl

-- the same NaN span in two entries
pub nan-twice : counts (decode (headed 1 2 ++ bare 2 ++ lower_end 0x7FC00000 ++ upper_end 0x7FC00000 ++ bare 2 ++ lower_end 0x7FC00000 ++ upper_end 0x7FC00000)) ≡ refused (refusal 7 0 1)
unfolding decode header take_at u16 u32 string string_of octets octet lead counted pair entry many same metadata_value agree float_eq eq of_bits of_fields
nan-twice = refl

-- 0 and -0 agree
pub zeros : counts (decode (headed 1 2 ++ two_zeros)) ≡ ok 2 170
unfolding decode header take_at u16 u32 string string_of octets octet lead counted pair entry many same metadata_value agree float_eq eq of_bits of_fields
zeros = refl

-- of equal keys the first counts: the NaN after it is not compared
pub first-counts : counts (decode (headed 1 2 ++ bare 3 ++ lower_end 0x42A00000 ++ upper_end 0x463B8000 ++ lower_end 0x7FC00000 ++ bare 3 ++ lower_end 0x42A00000 ++ upper_end 0x463B8000 ++ lower_end 0x7FC00000)) ≡ ok 2 220
unfolding decode header take_at u16 u32 string string_of octets octet lead counted pair entry many same metadata_value agree float_eq eq of_bits of_fields
first-counts = refl

-- question 2 of a later entry comes before question 7 of an earlier one
pub later-end : counts (decode (headed 1 2 ++ bare 1 ++ lower_end 0 ++ put_u32 0)) ≡ refused (refusal 2 0 0)
unfolding decode header take_at u16 u32 string string_of octets octet lead counted pair entry many same metadata_value agree float_eq
later-end = refl

-- P6: P1 with version 0, and a byte after the end, is rewritten to P1; the target's byte beyond stays
pub p6 : rewritten (decode (headed 0 0 ++ 5 ∷ [])) (replicate 15 9) ≡ headed 1 0 ++ 9 ∷ []
unfolding decode header take_at u16 u32 string string_of octets octet lead counted pair entry many same metadata_value agree float_eq encode put_all put_pair put_entry
p6 = refl

pub p6-answer : rewriting (decode (headed 0 0 ++ 5 ∷ [])) 15 ≡ ok 0 14
unfolding decode header take_at u16 u32 string string_of octets octet lead counted pair entry many same metadata_value agree float_eq encode put_all put_pair put_entry
p6-answer = refl

-- a target of 13 bytes: 17, and it stays
pub too_short : rewriting (decode (headed 1 0)) 13 ≡ refused (refusal 17 0 0)
unfolding decode header take_at u16 u32 string string_of octets octet lead counted pair entry many same metadata_value agree float_eq encode put_all put_pair put_entry
too_short = refl

pub too-short-stays : rewritten (decode (headed 1 0)) (replicate 13 9) ≡ replicate 13 9
unfolding decode header take_at u16 u32 string string_of octets octet lead counted pair entry many same metadata_value agree float_eq encode put_all put_pair put_entry
too-short-stays = refl

-- an image of version 0 with two entries and their pairs, all of it
pub whole-image : rewritten (decode (headed 0 2 ++ two_zeros)) (replicate 170 9) ≡ headed 1 2 ++ two_zeros
unfolding decode header take_at u16 u32 string string_of octets octet lead counted pair entry many same metadata_value agree float_eq eq of_bits of_fields encode put_all put_pair put_entry
whole-image = refl
