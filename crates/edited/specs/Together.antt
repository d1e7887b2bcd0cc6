-- The texts of rows one behind the other, and their figures as one sum. Assumes nothing: these are definitions.
use Rattle.std.specs.Prelude.{ℕ, List, [], ◌∷◌, ◌++◌, Bool, true, ◌&&◌, ℤ}
use Rattle.tally.specs.Tally.{no_figures, plus}

unfoldable pub texts : List (List ℕ) → List ℕ
texts [] = []
texts (s ∷ l) = s ++ texts l

unfoldable pub figures : List (List ℤ) → List ℤ
figures [] = no_figures
figures (s ∷ l) = plus s (figures l)

unfoldable pub all_fit : List Bool → Bool
all_fit [] = true
all_fit (b ∷ l) = b && all_fit l
