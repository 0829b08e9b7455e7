-- The wave that stands for a sine: W of crate wave_table, and a straight line between neighbours.
-- Each f32 operation is rounded once; the letters in the comments are document 01's.
use Rattle.std.specs.Prelude.{ℕ, ◌+◌, ◌-◌, min, Bool, true, false, cond, ◌&&◌, List, ℤ, pos, negsuc, ◌-ℤ◌, neg_ℤ, nat_le, slice_index, Float}
use Rattle.std.specs.Float.{fin, binary32}
use Rattle.std.specs.Float.Ieee.{lt, of_int, to_unsigned}
use Rattle.float.specs.Fraction.{fraction}
use Rattle.wave_table.specs.Wave.{wave_of}
use Rattle.float.specs.F32.{◌⊕◌, ◌⊗◌, quotient}

-- q = p * 1024
abbrev pub place_of : Float → Float
place_of p = p ⊗ fin false 1 (pos 10)

-- k, the whole part of q
abbrev pub cell_of : Float → ℕ
cell_of p = to_unsigned 64 (place_of p)

-- r = q - k
abbrev pub rest_of : Float → Float
rest_of p = fraction (place_of p)

-- from a = W(k) to b = W(k + 1) in units of 2^-23, as far as r says: (a + r * (b - a)) * 2^-23, the difference taken in integers
abbrev pub line_of : Float → ℤ → ℤ → Float
line_of p a b = (of_int binary32 a ⊕ rest_of p ⊗ of_int binary32 (b -ℤ a)) ⊗ fin false 1 (negsuc 22)

-- S(p) = (W(k) + r * (W(k + 1) - W(k))) * 2^-23
unfoldable pub sine_of : Float → Float
sine_of p =
    let k = cell_of p in
    line_of p (wave_of k) (wave_of (k + 1))

-- ---- what `sine` answers: the same over a list that is lent to it, for every list of numbers and every float.
-- Where the list holds T(0) to T(256) and p is a phase it is S(p): `sine-in` in proofs/SineLaws.antt.
-- T(k) as the list has it; a number above 2^23 counts as 2^23
abbrev pub quarter_in : List ℕ → ℕ → ℕ
quarter_in xs k = min (slice_index xs k) 8388608

-- T(k) as the list has it, or its negative
abbrev pub signed_in : List ℕ → Bool → ℕ → ℤ
signed_in xs minus k = cond minus (neg_ℤ (pos (quarter_in xs k))) (pos (quarter_in xs k))

-- W(k) as the list has it, its quarters laid out as in `wave_of`
unfoldable pub wave_in : List ℕ → ℕ → ℤ
wave_in xs k =
    cond (nat_le k 256) (signed_in xs false k)
    (cond (nat_le k 512) (signed_in xs false (512 - k))
    (cond (nat_le k 768) (signed_in xs true (k - 512))
    (signed_in xs true (1024 - k))))

-- S(p) as the list has it, for a p from 0 up to below 1
unfoldable pub line_in : List ℕ → Float → Float
line_in xs p =
    let k = cell_of p in
    line_of p (wave_in xs k) (wave_in xs (k + 1))

-- above 0 and below 1 the line's value; 0, as S(0) is, for every other p: 0, -0, what is outside, a NaN
unfoldable pub sine_in : List ℕ → Float → Float
sine_in xs p = cond (lt (quotient 0 1) p && lt p (quotient 1 1)) (line_in xs p) (quotient 0 1)
