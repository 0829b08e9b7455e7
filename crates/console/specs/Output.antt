-- What is known of a file that is written: the answers. What becomes of it on a disk, no contract can say.
use Rattle.std.specs.Prelude.{◌≡◌, ℕ, ◌-◌, ◌≤◌, List, [], ◌∷◌, length, take, drop, ℤ, pos, negsuc, ◌≤ℤ◌, Option, Some, None, Result, Ok, Err}
use Rattle.std.specs.declared.fs.File.{File}
use Rattle.std.specs.Fd.{file_raw_fd}
use Rattle.console.specs.declared.Failed.{Failed}

-- standard output's descriptor, 1, unless it is closed
abbrev pub StandardOutput : Result ℤ Failed → Type 0
StandardOutput (Ok d) = d ≡ pos 1
StandardOutput (Err e) = Unit {0}

-- a descriptor, or -1
abbrev pub Descriptor : ℤ → Type 0
Descriptor (pos k) = Unit {0}
Descriptor (negsuc k) = k ≡ 0

-- the number of an open file, or -1 where there is none
abbrev pub number_or_none : Result File Failed → ℤ
number_or_none (Ok file) = file_raw_fd file
number_or_none (Err e) = negsuc 0

-- the number that an open file has
abbrev pub IsOpen : ℤ → Type 0
IsOpen d = pos 0 ≤ℤ d

-- ".part"
abbrev pub dot_part : List ℕ
dot_part = 46 ∷ 112 ∷ 97 ∷ 114 ∷ 116 ∷ []

-- the first n bytes are a name that ends with .part; there is none where there was no room
abbrev pub PartNamed : Option ℕ → List ℕ → Type 0
PartNamed (Some n) xs = (n ≤ length xs) × (n ≡ length (take n xs)) × (drop (n - 5) (take n xs) ≡ dot_part)
PartNamed None xs = Unit {0}
