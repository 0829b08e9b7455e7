-- The checksum that the standard's own example has: CRC-32 of the digits 1 to 9 is 0xcbf43926. Assumes nothing.
use Rattle.std.proofs.Common.{◌≡◌, [], ◌∷◌, refl}
use Rattle.console.specs.Crc.{crc_bit, crc_bits, crc_byte, crc_bytes, checksum}

pub nine-digits : checksum (crc_bytes 4294967295 (49 ∷ 50 ∷ 51 ∷ 52 ∷ 53 ∷ 54 ∷ 55 ∷ 56 ∷ 57 ∷ [])) ≡ 3421780262
unfolding crc_bit crc_bits crc_byte crc_bytes
nine-digits = refl

pub no_bytes : checksum (crc_bytes 4294967295 []) ≡ 0
unfolding crc_bytes
no_bytes = refl
