-- W at the edges of its quarters: the ends, and on both sides of each edge. Assumes nothing.
use mathlib.Core.Path.{◌≡◌, refl}
use lib.IntN.{pos, neg_ℤ}
use Rattle.wave_table.specs.Wave.{quarter_of, wave_of}

pub record Edges : Type 0 where
  pub at-0 : wave_of 0 ≡ pos 0
  pub at_1 : wave_of 1 ≡ pos 51471
  pub at-255 : wave_of 255 ≡ wave_of 257
  pub at-256 : wave_of 256 ≡ pos 8388608
  pub at-511 : wave_of 511 ≡ pos 51471
  pub at-512 : wave_of 512 ≡ pos 0
  pub at-513 : wave_of 513 ≡ neg_ℤ (pos 51471)
  pub at-767 : wave_of 767 ≡ wave_of 769
  pub at-768 : wave_of 768 ≡ neg_ℤ (pos 8388608)
  pub at-1023 : wave_of 1023 ≡ neg_ℤ (pos 51471)
  pub at-1024 : wave_of 1024 ≡ pos 0

pub edges : Edges
unfolding wave_of quarter_of
edges = record {
  at-0 = refl;
  at_1 = refl;
  at-255 = refl;
  at-256 = refl;
  at-511 = refl;
  at-512 = refl;
  at-513 = refl;
  at-767 = refl;
  at-768 = refl;
  at-1023 = refl;
  at-1024 = refl;
}
