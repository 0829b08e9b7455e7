-- Laws on the checksum, bit after bit and byte after byte. Assumes nothing.
use Rattle.std.proofs.Common.{◌≡◌, ℕ, ◌+◌, ◌<◌, ◌≤◌, List, length, get_or, drop, refl, add-one, drop_of_length-le, drop-cons}
use lib.Bits.{bit_xor}
use Rattle.console.specs.Crc.{crc_bit, crc_bits, crc_byte, crc_bytes}

pub bits-next : (c n : ℕ) → crc_bits c (n + 1) ≡ crc_bit (crc_bits c n)
unfolding crc_bits
bits-next c n = rw add-one

pub byte-eight : (c b : ℕ) → crc_byte c b ≡ crc_bits (bit_xor c b) 8
unfolding crc_byte
byte-eight c b = refl

pub bytes_next : (c : ℕ) (s : List ℕ) (i : ℕ) → i < length s →
    crc_bytes (crc_byte c (get_or s i 0)) (drop (i + 1) s) ≡ crc_bytes c (drop i s)
unfolding crc_bytes
bytes_next c s i h = rw (add-one, drop-cons s i 0)

pub bytes-end : (c : ℕ) (s : List ℕ) (i : ℕ) → length s ≤ i → crc_bytes c (drop i s) ≡ c
unfolding crc_bytes
bytes-end c s i h = rw drop_of_length-le

pub ruleset bytes_steps = (bytes_next, bytes-end)

pub bits-none : (c : ℕ) → crc_bits c 0 ≡ c
unfolding crc_bits
bits-none c = refl

pub ruleset bit_steps = (bits-none, bits-next, byte-eight)
