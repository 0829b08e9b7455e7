-- Parsers over the bytes of an image. A parser is given all the bytes and a position, and answers a value and the position
-- past it, or a refusal. The definitions of the wire and of the table are written with it, each question where it is asked.
use Rattle.std.specs.Prelude.{ℕ, zero, suc, ◌+◌, List, [], ◌∷◌, Bool, true, false}

-- a refusal: the number of the question that was answered no, and the values that it names (0 where it names none)
pub record Refusal : Type 0 where
  pub number : ℕ
  pub first : ℕ
  pub second : ℕ

abbrev pub refusal : ℕ → ℕ → ℕ → Refusal
refusal n a b = record { number = n; first = a; second = b }

pub data Parsed (A : Type 0) : Type 0 where
  ok : A → ℕ → Parsed A
  refused : Refusal → Parsed A

abbrev pub Parser : Type 0 → Type 0
Parser A = List ℕ → ℕ → Parsed A

-- what follows a value; a refusal ends the reading
abbrev pub then : {A B : Type 0} → Parsed A → (A → ℕ → Parsed B) → Parsed B
then (ok a at) f = f a at
then (refused r) f = refused r

abbrev pub pure : {A : Type 0} → A → Parser A
pure a s at = ok a at

infixl 10 ◌>>=◌
infixl 10 ◌>>◌
abbrev pub ◌>>=◌ : {A B : Type 0} → Parser A → (A → Parser B) → Parser B
◌>>=◌ p f s at = then (p s at) (λ a next. f a s next)

abbrev pub ◌>>◌ : {A B : Type 0} → Parser A → Parser B → Parser B
◌>>◌ p q s at = then (p s at) (λ a next. q s next)

-- a question: where the answer is no, its refusal
abbrev pub asked : Bool → ℕ → Refusal → Parsed Bool
asked true at r = ok true at
asked false at r = refused r

abbrev pub require : Bool → Refusal → Parser Bool
require b r s at = asked b at r

-- n things one after the other; each is told its index, counted from i
unfoldable pub many : {A : Type 0} → (ℕ → Parser A) → ℕ → ℕ → Parser (List A)
many p i zero = pure []
many p i (suc n) = do
  a ← p i
  l ← many p (i + 1) n
  pure (a ∷ l)

-- those of them that stand at a position, up to the first that cannot be read
abbrev pub onward : {A : Type 0} → Parsed A → (A → ℕ → List A) → List A
onward (ok a at) k = k a at
onward (refused r) k = []

unfoldable pub standing : {A : Type 0} → (ℕ → Parser A) → ℕ → ℕ → List ℕ → ℕ → List A
standing p i zero s at = []
standing p i (suc n) s at = onward (p i s at) (λ a next. a ∷ standing p (i + 1) n s next)
