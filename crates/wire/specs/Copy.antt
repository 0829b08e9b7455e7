-- What is copied from one slice to another.
use Rattle.std.specs.Prelude.{List, [], ◌∷◌}

-- `to` with the elements of `from` at its start: those that there is room for
unfoldable pub copied : {A : Type 0} → List A → List A → List A
copied [] to = to
copied (b ∷ from) [] = []
copied (b ∷ from) (c ∷ to) = b ∷ copied from to
