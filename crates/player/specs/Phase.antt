-- A phase counts turns, at least 0 and below 1. Each sample it gains a step and loses its whole part.
use Rattle.std.specs.Prelude.{ℕ, false, pos, Float}
use Rattle.std.specs.Float.{fin, binary32}
use Rattle.std.specs.Float.Ieee.{of_int}
use Rattle.float.specs.Fraction.{fraction}
use Rattle.float.specs.F32.{◌⊕◌, ◌⊗◌, ◌⊘◌}

-- the phase after a step
abbrev pub advance_of : Float → Float → Float
advance_of ph inc = fraction (ph ⊕ inc)

-- 1 / rate, worked out once
abbrev pub inverse_of : Float → Float
inverse_of rate = fin false 1 (pos 0) ⊘ rate

-- the frequency of partial m, counted from 1: m * f0 * stretch, from the left
abbrev pub partial_freq : ℕ → Float → Float → Float
partial_freq m f0 stretch = of_int binary32 (pos m) ⊗ f0 ⊗ stretch

-- what partial m's phase gains each sample; inv is 1 / rate
abbrev pub step_of : ℕ → Float → Float → Float → Float
step_of m f0 stretch inv = partial_freq m f0 stretch ⊗ inv
