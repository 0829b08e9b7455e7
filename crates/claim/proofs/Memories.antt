-- The memories of a voice at first, band by band. Assumes nothing.
use mathlib.Core.Path.{◌≡◌, sym, ◌∙◌}
use Prim.Native.Nat.{ℕ, ◌+◌, ◌*◌, ◌≤◌, ◌<◌}
use native.Mathlib.Omega.{arith}
use lib.ListN.{replicate, length-replicate, get_or-replicate}
use lib.Seq.{ext_get_or}
use lib.Ieee.{nan}
use Rattle.float.specs.F32.{quotient}
use Rattle.filters.specs.Biquad.{cleared}
use Rattle.voice.specs.Lists.{up_to}
use Rattle.voice.specs.Voice.{memory_at, no_memories}
use Rattle.voice.proofs.Loops.{length-up_to, up_to-at}

-- LAW: at first each is cleared
pub memories-first : (n : ℕ) → n ≤ 16 → up_to (memory_at no_memories) n ≡ replicate n cleared
memories-first n h =
    let l = length-up_to (memory_at no_memories) n in
    ext_get_or cleared (up_to (memory_at no_memories) n) (replicate n cleared) (l ∙ sym (length-replicate n cleared))
    (λ i k. up_to-at (memory_at no_memories) n i cleared (omega arith) ∙ first i (omega arith) ∙ sym (get_or-replicate n i cleared cleared (omega arith)))
  where
    first : (i : ℕ) → i < 16 → memory_at no_memories i ≡ cleared
    first i l = rw (get_or-replicate 32 (i * 2) (quotient 0 1) nan (omega arith), get_or-replicate 32 (i * 2 + 1) (quotient 0 1) nan (omega arith))
