-- The noise numbers: the linear congruential generator of Numerical Recipes, with 32 bits of state.
use Rattle.std.specs.Prelude.{ℕ, ◌+◌, ◌-◌, ◌*◌, ◌%◌, ◌^◌, false, cond, ℤ, pos, negsuc, nat_lt, Float}
use Rattle.std.specs.Float.{fin, binary32}
use Rattle.std.specs.Float.Ieee.{of_int}
use Rattle.float.specs.F32.{◌⊘◌}
use Rattle.filters.specs.declared.rng.Rng.{Rng}
use Rattle.filters.specs.declared.rng.Bipolar.{Bipolar}

-- the next state
abbrev pub stepped : ℕ → ℕ
stepped s = (s * 1664525 + 1013904223) % 2 ^ 32

-- 32 bits read as a signed number
abbrev pub signed_of : ℕ → ℤ
signed_of n = cond (nat_lt n 2147483648) (pos n) (negsuc (4294967295 - n))

-- a state as a float: the signed number rounded to the nearest f32, divided by 2^31
unfoldable pub bipolar_of : ℕ → Float
bipolar_of s = of_int binary32 (signed_of s) ⊘ fin false 1 (pos 31)

-- a generator's first state is the seed plus 1, wrapping
abbrev pub new_rng : ℕ → Rng
new_rng seed = record { state = (seed + 1) % 2 ^ 32 }

-- a step, and the new state as a float
abbrev pub next_bipolar : Rng → Bipolar
next_bipolar g = record {
  rng = record { state = stepped g.state };
  value = bipolar_of (stepped g.state);
}

-- the seed of a voice that was not given one
abbrev pub default_seed : ℕ
default_seed = 0x9A27_1E55
