-- The laws of memories that lie flat, two a band.
use mathlib.Core.Path.{◌≡◌, sym, ap, ◌∙◌}
use mathlib.Core.List.{List}
use Prim.Native.Nat.{ℕ, zero, suc, ◌+◌, ◌*◌, ◌<◌}
use native.Mathlib.Omega.{arith}
use lib.Ieee.{Float, nan}
use lib.ListN.{length, get_or, set, length-set}
use lib.Seq.{ext_get_or, get_or-set_same, get_or-set_other}
use Rattle.voice.specs.Voice.{memory_at, with_memory}
use Rattle.filters.specs.declared.biquad.BiquadState.{BiquadState}

pub length-with : (ms : List Float) (b : ℕ) (s : BiquadState) → length (with_memory ms b s) ≡ length ms
length-with ms b s = length-set (set ms (b * 2) s.z1) (b * 2 + 1) s.z2 ∙ length-set ms (b * 2) s.z1

-- LAW: the memory that was written is there
pub memory-written : (ms : List Float) (b : ℕ) (s : BiquadState) → b * 2 + 1 < length ms → memory_at (with_memory ms b s) b ≡ s
memory-written ms b s h =
    let ns = set ms (b * 2) s.z1 in
    let n = length-set ms (b * 2) s.z1 in
    rw (
      get_or-set_other ns (b * 2 + 1) (b * 2) s.z2 nan (λ (e : b * 2 ≡ b * 2 + 1). omega arith),
      get_or-set_same ms (b * 2) s.z1 nan (omega arith),
      get_or-set_same ns (b * 2 + 1) s.z2 nan (omega arith),
    )

-- LAW: and the others are as they were
pub memory_kept : (ms : List Float) (a b : ℕ) (s : BiquadState) → (a ≡ b → ⊥) → memory_at (with_memory ms b s) a ≡ memory_at ms a
memory_kept ms a b s h =
    let ns = set ms (b * 2) s.z1 in
    rw (
      get_or-set_other ns (b * 2 + 1) (a * 2) s.z2 nan (λ (e : a * 2 ≡ b * 2 + 1). omega arith),
      get_or-set_other ms (b * 2) (a * 2) s.z1 nan (λ (e : a * 2 ≡ b * 2). h (omega arith)),
      get_or-set_other ns (b * 2 + 1) (a * 2 + 1) s.z2 nan (λ (e : a * 2 + 1 ≡ b * 2 + 1). h (omega arith)),
      get_or-set_other ms (b * 2) (a * 2 + 1) s.z1 nan (λ (e : a * 2 + 1 ≡ b * 2). omega arith),
    )

-- a place is the first or the second of a band
data Half (q : ℕ) : Type 0 where
  first : (b : ℕ) → q ≡ b * 2 → Half q
  second : (b : ℕ) → q ≡ b * 2 + 1 → Half q

half : (q : ℕ) → Half q
half zero = first 0 (omega arith)
half (suc q) = more (half q)
  where
    more : Half q → Half (suc q)
    more (first b e) = second b (omega arith)
    more (second b e) = first (b + 1) (omega arith)

-- LAW: lists of n memories that agree in each are one
pub memories-same : (n : ℕ) (ms ns : List Float) → length ms ≡ n * 2 → length ns ≡ n * 2 → ((b : ℕ) → b < n → memory_at ms b ≡ memory_at ns b) → ms ≡ ns
memories-same n ms ns h k e = ext_get_or nan ms ns (h ∙ sym k) (λ q l. at q l (half q))
  where
    at : (q : ℕ) → q < length ms → Half q → get_or ms q nan ≡ get_or ns q nan
    at q l (first b p) = rw p (ap (λ (s : BiquadState). s.z1) (e b (omega arith)))
    at q l (second b p) = rw p (ap (λ (s : BiquadState). s.z2) (e b (omega arith)))
