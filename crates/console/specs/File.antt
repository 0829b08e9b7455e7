-- What is known of a file that was read into a buffer: how many of the buffer's bytes it filled. Which bytes they are, no contract can say.
use Rattle.std.specs.Prelude.{◌≡◌, ℕ, ◌≤◌, List, length, take, Result, Ok, Err}
use Rattle.console.specs.declared.Failed.{Failed}

abbrev pub HasRead : Result ℕ Failed → List ℕ → Type 0
HasRead (Ok n) buf = (n ≤ length buf) × (n ≡ length (take n buf))
HasRead (Err e) buf = Unit {0}
