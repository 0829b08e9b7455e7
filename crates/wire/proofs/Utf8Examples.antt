-- The definition of UTF-8 at its edges. Assumes nothing.
use mathlib.Core.Path.{◌≡◌, refl}
use mathlib.Core.List.{[], ◌∷◌}
use mathlib.Core.Bool.{true, false}
use Rattle.wire.specs.Utf8.{lead, octet, octets, utf8}

-- U+00E9, two bytes; U+10FFFF, the last character there is
pub two_bytes : utf8 (0xC3 ∷ 0xA9 ∷ []) ≡ true
unfolding octets octet lead
two_bytes = refl

pub last-character : utf8 (0xF4 ∷ 0x8F ∷ 0xBF ∷ 0xBF ∷ []) ≡ true
unfolding octets octet lead
last-character = refl

-- 0 in two bytes and in three, the first surrogate, the number after the last character, and a first byte beyond its
pub longer-form : utf8 (0xC0 ∷ 0x80 ∷ []) ≡ false
unfolding octets octet lead
longer-form = refl

pub longer-form-three : utf8 (0xE0 ∷ 0x80 ∷ 0x80 ∷ []) ≡ false
unfolding octets octet lead
longer-form-three = refl

pub surrogate : utf8 (0xED ∷ 0xA0 ∷ 0x80 ∷ []) ≡ false
unfolding octets octet lead
surrogate = refl

pub past-last-character : utf8 (0xF4 ∷ 0x90 ∷ 0x80 ∷ 0x80 ∷ []) ≡ false
unfolding octets octet lead
past-last-character = refl

pub past-last-byte : utf8 (0xF5 ∷ 0x80 ∷ 0x80 ∷ 0x80 ∷ []) ≡ false
unfolding octets octet lead
past-last-byte = refl

-- U+20AC without its third byte, two bytes that only follow others, and a byte of its own within U+00E9
pub cut_off : utf8 (0xE2 ∷ 0x82 ∷ []) ≡ false
unfolding octets octet lead
cut_off = refl

pub alone : utf8 (0xA9 ∷ []) ≡ false
unfolding octets octet lead
alone = refl

pub alone-first : utf8 (0x80 ∷ []) ≡ false
unfolding octets octet lead
alone-first = refl

pub within : utf8 (0xC3 ∷ 0x41 ∷ 0xA9 ∷ []) ≡ false
unfolding octets octet lead
within = refl
