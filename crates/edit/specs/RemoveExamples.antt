-- Rows that are taken out, by computation (document 02, T-08): the first, the second and the last of three, the only one, the order of the refusals.
-- Assumes nothing.
use Rattle.std.specs.Prelude.{ℕ, ◌≡◌, refl, List, [], ◌∷◌, ◌++◌, ℤ, pos}
use Rattle.laws.specs.Text.{text}
use Rattle.heading.specs.declared.Header.{Header}
use Rattle.sheet.specs.Tables.{Tables, move_at}
use Rattle.made.specs.declared.Flaw.TheVariants.{BadHeader, Faulty}
use Rattle.made.specs.Made.{tables_of, used_of}
use Rattle.made.specs.Examples.{header}
use Rattle.row.specs.Examples.{computed as computed_sought}
use Rattle.std.specs.Prelude.{Result, Ok, Err}
use Rattle.edit.specs.declared.Unedited.{Unedited}
use Rattle.edit.specs.declared.Unedited.TheVariants.{Missing, Refused}
use Rattle.edit.specs.Answers.{number_of, count_of}
use Rattle.edit.specs.Removals.{fall_from, without, removed_tables, remove_of}
use Rattle.edit.specs.MoveExamples.{row}

-- a ring of four vertices
abbrev ring : ℕ → List ℤ
ring x = pos x ∷ pos 0 ∷ pos 9 ∷ pos 0 ∷ pos 9 ∷ pos 9 ∷ pos x ∷ pos 0 ∷ []

-- a border of three letters with an island, a text of two, a line of two vertices: so many letters, island counts and points stand before
abbrev border : ℕ → ℕ → ℕ → List ℤ
border l i p = row 1 (pos 18) (pos 0) (pos 1) (pos 1) (pos 1) (pos 1) 3 1 8 l i p

abbrev label : ℕ → ℕ → ℕ → List ℤ
label l i p = row 2 (pos 18) (pos 0) (pos 5) (pos 6) (pos 0) (pos 0) 2 0 0 l i p

abbrev line : ℕ → ℕ → ℕ → List ℤ
line l i p = row 5 (pos 0) (pos 0) (pos 0) (pos 0) (pos 0) (pos 0) 0 0 2 l i p

abbrev ends : List ℤ
ends = pos 1 ∷ pos 2 ∷ pos 3 ∷ pos 4 ∷ []

-- the three, in tables that hold more
abbrev three : Tables
three = tables_of (border 0 0 0 ++ label 3 1 8 ++ line 5 1 8 ++ pos 77 ∷ []) (text "abcde?") (4 ∷ 9 ∷ []) (ring 0 ++ ring 0 ++ ends ++ pos 7 ∷ [])

-- the definitions opened, so that they compute
unfoldable pub computed : Header → ℕ → Tables → ℕ → Result ℕ Unedited × Tables
unfolding remove_of without fall_from move_at used_of computed_sought
computed h count t k = (remove_of h count t k, removed_tables count k t)

pub remove_row : ℕ → Tables → ℕ → Result ℕ Unedited
unfolding computed
remove_row count t k = remove_of (header 1) count t k

rest : ℕ → ℕ → Tables → Tables
unfolding computed
rest count k t = removed_tables count k t

-- the first: the rows behind it fall to 0, and what is freed keeps what it held: the last row, "de?", "4 9", and from the fifth number on the points
first_out : (remove_row 3 three 0 ≡ Ok 2)
    × (rest 3 0 three ≡ tables_of (label 0 0 0 ++ line 2 0 0 ++ line 5 1 8 ++ pos 77 ∷ []) (text "decde?") (4 ∷ 9 ∷ []) (ends ++ pos 9 ∷ pos 9 ∷ pos 0 ∷ pos 0 ∷ ring 0 ++ ends ++ pos 7 ∷ []))
unfolding remove_row rest
first_out = (refl, refl)

-- the second: the line falls by two letters alone
second-out : rest 3 1 three ≡ tables_of (border 0 0 0 ++ line 3 1 8 ++ line 5 1 8 ++ pos 77 ∷ []) (text "abcde?") (4 ∷ 9 ∷ []) (ring 0 ++ ring 0 ++ ends ++ pos 7 ∷ [])
unfolding rest
second-out = refl

-- the last, and the only one: nothing is copied
last_out : (remove_row 3 three 2 ≡ Ok 2) × (rest 3 2 three ≡ three) × (remove_row 1 three 0 ≡ Ok 0) × (rest 1 0 three ≡ three)
unfolding remove_row rest
last_out = (refl, refl, refl, refl)

-- 6, then 15, then 19
order : (remove_of (header 4) 4 three 9 ≡ Err (Refused BadHeader)) × (remove_row 4 three 9 ≡ Err (Refused (Faulty 3))) × (remove_row 3 three 3 ≡ Err Missing) × (number_of (Err Missing) ≡ 19) × (count_of (Err Missing) ≡ 0)
unfolding remove_row computed
order = (refl, refl, refl, refl, refl)
