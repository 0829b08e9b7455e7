-- CRC-32 as in zip and PNG (ISO 3309): what is left of the bits of all bytes, the lowest of a byte first, after division by the polynomial
-- 0x04c11db7. The running number holds its lowest power in the highest bit, so there the polynomial is 0xedb88320.
use Rattle.std.specs.Prelude.{ℕ, zero, suc, ◌/◌, ◌%◌, cond, List, [], ◌∷◌, ◌==◌, bit_xor}

-- one bit further
unfoldable pub crc_bit : ℕ → ℕ
crc_bit c = cond (c % 2 == 1) (bit_xor (c / 2) 3988292384) (c / 2)

-- n bits further
unfoldable pub crc_bits : ℕ → ℕ → ℕ
crc_bits c zero = c
crc_bits c (suc n) = crc_bit (crc_bits c n)

-- a byte further
unfoldable pub crc_byte : ℕ → ℕ → ℕ
crc_byte c b = crc_bits (bit_xor c b) 8

-- all bytes
unfoldable pub crc_bytes : ℕ → List ℕ → ℕ
crc_bytes c [] = c
crc_bytes c (b ∷ bs) = crc_bytes (crc_byte c b) bs

-- the checksum of a running number that started with 32 ones
abbrev pub checksum : ℕ → ℕ
checksum c = bit_xor c 4294967295
