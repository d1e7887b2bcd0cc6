-- What the writer's own functions leave behind, and the sizes they go by. Assumes nothing: these are definitions.
use Rattle.std.specs.Prelude.{ℕ, ◌+◌, ◌*◌, ◌≡◌, List, [], ◌∷◌, length, get_or, ℤ}
use Rattle.laws.specs.Lists.{pasted}
use Rattle.kinds.specs.Kinds.{letters_place, islands_place, vertices_place}
use Rattle.row.specs.Walk.{cell_in}

-- in d, which held l, s stands from `at` on; r is the place behind it
pub record Put (l : List ℕ) (at : ℕ) (s d : List ℕ) (r : ℕ) : Type 0 where
  pub is : d ≡ pasted l at s
  pub next : r ≡ at + length s

-- ---- the size of a row's text

-- by kind, from 0: the bytes of its records without letters, outside mark, island counts and points
unfoldable pub frames : List ℕ
frames = 0 ∷ 97 ∷ 57 ∷ 57 ∷ 75 ∷ 19 ∷ 22 ∷ 24 ∷ []

unfoldable pub row_size : List ℤ → ℕ
row_size rows = get_or frames (cell_in rows 0) 0 + cell_in rows 1 + cell_in rows letters_place + 6 * cell_in rows islands_place + 28 * cell_in rows vertices_place
