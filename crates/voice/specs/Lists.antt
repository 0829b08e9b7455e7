-- Lists, tests and steps by an index that counts up.
use Rattle.std.specs.Prelude.{List, [], ◌∷◌, ◌++◌, Bool, true, ◌&&◌, ℕ, zero, suc, ◌-◌, length, replicate}

-- the first n elements of a list, each given its index from k and mapped; the rest as they are
unfoldable pub map_to : {A : Type 0} → (ℕ → A → A) → ℕ → ℕ → List A → List A
map_to f k zero l = l
map_to f k (suc n) [] = []
map_to f k (suc n) (x ∷ l) = f k x ∷ map_to f (suc k) n l

-- f 0, f 1, .., f (n - 1)
unfoldable pub up_to : {A : Type 0} → (ℕ → A) → ℕ → List A
up_to f zero = []
up_to f (suc n) = up_to f n ++ (f n ∷ [])

-- s, then step 0 of it, then step 1, and so on: n steps
unfoldable pub steps : {A : Type 0} → (ℕ → A → A) → A → ℕ → A
steps f s zero = s
steps f s (suc n) = f n (steps f s n)

-- f 0 ++ f 1 ++ .. ++ f (n - 1)
unfoldable pub join_to : {A : Type 0} → (ℕ → List A) → ℕ → List A
join_to f zero = []
join_to f (suc n) = join_to f n ++ f n

-- whether every index below n passes the test
abbrev pub every : (ℕ → Bool) → ℕ → Bool
every test n = steps (λ i b. b && test i) true n

-- a list made n long with x
abbrev pub padded : {A : Type 0} → ℕ → A → List A → List A
padded n x l = l ++ replicate (n - length l) x
