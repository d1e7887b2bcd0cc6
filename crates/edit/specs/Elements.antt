-- What the rows of a sheet say one by one, and the same without one of them, for the laws. Assumes nothing: these are definitions.
use Rattle.std.specs.Prelude.{ℕ, zero, suc, List, [], ◌∷◌}
use Rattle.sheet.specs.Tables.{Tables}
use Rattle.made.specs.Made.{rest_of}

-- what f says of each of the first n rows, a definition on the first row of what is left
unfoldable pub elements_of : {A : Type 0} → (Tables → A) → ℕ → Tables → List A
elements_of f zero t = []
elements_of f (suc n) t = f t ∷ elements_of f n (rest_of t)

-- a list without its k-th
unfoldable pub less_one : {A : Type 0} → ℕ → List A → List A
less_one k [] = []
less_one zero (x ∷ s) = s
less_one (suc k) (x ∷ s) = x ∷ less_one k s
