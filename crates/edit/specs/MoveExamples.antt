-- Sheets that are moved, by computation (document 02, T-08): a row of each kind, what just fits and what just does not, the order of the refusals.
-- Assumes nothing.
use Rattle.std.specs.Prelude.{ℕ, ◌≡◌, refl, List, [], ◌∷◌, ◌++◌, ℤ, pos, negsuc}
use Rattle.laws.specs.Text.{text}
use Rattle.heading.specs.declared.Header.{Header}
use Rattle.plane.specs.Moved.{moved}
use Rattle.sheet.specs.Tables.{Tables}
use Rattle.made.specs.declared.Flaw.TheVariants.{BadHeader, Faulty}
use Rattle.made.specs.Made.{tables_of, used_of}
use Rattle.made.specs.Examples.{header, computed as computed_verdict}
use Rattle.std.specs.Prelude.{Result, Ok, Err}
use Rattle.edit.specs.declared.Unedited.{Unedited}
use Rattle.edit.specs.declared.Unedited.TheVariants.{MovedOff, Refused}
use Rattle.edit.specs.Answers.{tables_at, number_of, row_of, count_of}
use Rattle.edit.specs.Rows.{every_row, each_row}
use Rattle.edit.specs.Moves.{is_part, is_moved, part_at, moved_cell, moved_cells, moved_row, moved_tables, row_stays, is_move, move_of}

-- a row of a kind: size, angle, x, y, second x, y; letters, island counts, vertices; and where they start
abbrev pub row : ℕ → ℤ → ℤ → ℤ → ℤ → ℤ → ℤ → ℕ → ℕ → ℕ → ℕ → ℕ → ℕ → List ℤ
row kind size angle x y x2 y2 letters islands vertices l i p =
    pos kind ∷ pos 0 ∷ pos 0 ∷ size ∷ angle ∷ x ∷ y ∷ x2 ∷ y2 ∷ pos letters ∷ pos islands ∷ pos vertices ∷ pos l ∷ pos i ∷ pos p ∷ []

-- a row with a number in each place, and the same moved by (100, -1)
abbrev full : ℕ → List ℤ
full kind = row kind (pos 3) (pos 4) (pos 5) (pos 6) (pos 7) (pos 8) 9 10 11 12 13 14

unfoldable pub computed_row : ℤ → ℤ → List ℤ → List ℤ
unfolding moved_row moved_cells moved_cell is_moved part_at computed_verdict
computed_row dx dy rows = moved_row dx dy rows

row_moved : ℕ → List ℤ
unfolding computed_row
row_moved kind = moved_row (pos 100) (negsuc 0) (full kind)

-- kinds 1 and 4 move x, y and the second x, y, kinds 2 and 3 x and y; sizes, angles, counts and starts stay
places : (row_moved 1 ≡ row 1 (pos 3) (pos 4) (pos 105) (pos 5) (pos 107) (pos 7) 9 10 11 12 13 14) × (row_moved 2 ≡ row 2 (pos 3) (pos 4) (pos 105) (pos 5) (pos 7) (pos 8) 9 10 11 12 13 14)
    × (row_moved 3 ≡ row 3 (pos 3) (pos 4) (pos 105) (pos 5) (pos 7) (pos 8) 9 10 11 12 13 14) × (row_moved 4 ≡ row 4 (pos 3) (pos 4) (pos 105) (pos 5) (pos 107) (pos 7) 9 10 11 12 13 14)
    × (row_moved 5 ≡ full 5) × (row_moved 6 ≡ full 6) × (row_moved 7 ≡ full 7)
unfolding row_moved
places = (refl, refl, refl, refl, refl, refl, refl)

-- ---- a text at (3000, -5), a line from (0, 0) to (9, 0), in tables that hold more

abbrev pub sheet_of : ℤ → ℤ → ℤ → Tables
sheet_of x y z =
    tables_of (row 2 (pos 18) (pos 4) x y (pos 0) (pos 0) 1 0 0 0 0 0 ++ row 5 (pos 0) (pos 0) (pos 0) (pos 0) (pos 0) (pos 0) 0 0 2 1 0 0 ++ pos 77 ∷ []) (text "7?") (4 ∷ [])
    (z ∷ pos 0 ∷ pos 9 ∷ pos 0 ∷ pos 5 ∷ [])

-- the definitions opened, so that they compute
unfoldable pub computed : Header → ℕ → Tables → ℤ → ℤ → Result ℕ Unedited × Tables
unfolding move_of is_move moved_tables each_row every_row row_stays is_part moved used_of computed_row computed_verdict
computed h count t dx dy = (move_of h count t dx dy, moved_tables dx dy count t)

pub move_sheet : ℕ → Tables → ℤ → ℤ → Result ℕ Unedited
unfolding computed
move_sheet count t dx dy = move_of (header 1) count t dx dy

-- what is behind the rows and behind their points stays
all_moved : (move_sheet 2 (sheet_of (pos 3000) (negsuc 4) (pos 0)) (pos 1000) (negsuc 1) ≡ Ok 2)
    × (moved_tables (pos 1000) (negsuc 1) 2 (sheet_of (pos 3000) (negsuc 4) (pos 0))
    ≡ tables_of (row 2 (pos 18) (pos 4) (pos 4000) (negsuc 6) (pos 0) (pos 0) 1 0 0 0 0 0 ++ row 5 (pos 0) (pos 0) (pos 0) (pos 0) (pos 0) (pos 0) 0 0 2 1 0 0 ++ pos 77 ∷ []) (text "7?") (4 ∷ [])
    (pos 1000 ∷ negsuc 1 ∷ pos 1009 ∷ negsuc 1 ∷ pos 5 ∷ []))
unfolding move_sheet computed
all_moved = (refl, refl)

-- the second row's points are not moved with the first row alone
first-moved : moved_tables (pos 1000) (negsuc 1) 1 (sheet_of (pos 3000) (negsuc 4) (pos 0))
    ≡ tables_of (row 2 (pos 18) (pos 4) (pos 4000) (negsuc 6) (pos 0) (pos 0) 1 0 0 0 0 0 ++ row 5 (pos 0) (pos 0) (pos 0) (pos 0) (pos 0) (pos 0) 0 0 2 1 0 0 ++ pos 77 ∷ []) (text "7?") (4 ∷ [])
    (pos 0 ∷ pos 0 ∷ pos 9 ∷ pos 0 ∷ pos 5 ∷ [])
unfolding computed
first-moved = refl

-- a position to the ends of the real range, and one past them
position-ends : (move_sheet 1 (sheet_of (pos 0) (pos 0) (pos 0)) (pos 99999999999) (negsuc 9999999998) ≡ Ok 1) × (move_sheet 1 (sheet_of (pos 1) (pos 0) (pos 0)) (pos 99999999999) (pos 0) ≡ Err MovedOff)
    × (move_sheet 1 (sheet_of (pos 0) (negsuc 0) (pos 0)) (pos 0) (negsuc 9999999998) ≡ Err MovedOff) × (move_sheet 1 (sheet_of (pos 0) (pos 0) (pos 0)) (negsuc 9999999999) (pos 0) ≡ Err MovedOff)
    × (move_sheet 1 (sheet_of (pos 0) (pos 0) (pos 0)) (pos 0) (pos 100000000000) ≡ Err MovedOff)
unfolding move_sheet
position-ends = (refl, refl, refl, refl, refl)

-- the same of a vertex: the line's second, at (9, 0)
vertex-ends : (move_sheet 2 (sheet_of (pos 0) (pos 0) (pos 0)) (pos 99999999990) (pos 0) ≡ Ok 2) × (move_sheet 2 (sheet_of (pos 0) (pos 0) (pos 0)) (pos 99999999991) (pos 0) ≡ Err MovedOff)
    × (move_sheet 2 (sheet_of (pos 9) (pos 0) (negsuc 0)) (negsuc 9999999997) (pos 0) ≡ Ok 2) × (move_sheet 2 (sheet_of (pos 9) (pos 0) (negsuc 0)) (negsuc 9999999998) (pos 0) ≡ Err MovedOff)
unfolding move_sheet
vertex-ends = (refl, refl, refl, refl)

-- from one end of the range to the other; and on an empty sheet one millimetre more is refused too
whole-range : (move_sheet 1 (sheet_of (negsuc 9999999998) (pos 99999999999) (pos 0)) (pos 109999999998) (negsuc 109999999997) ≡ Ok 1)
    × (move_sheet 0 (tables_of [] [] [] []) (pos 109999999998) (negsuc 109999999997) ≡ Ok 0) × (move_sheet 0 (tables_of [] [] [] []) (pos 109999999999) (pos 0) ≡ Err MovedOff)
    × (move_sheet 0 (tables_of [] [] [] []) (pos 0) (negsuc 109999999998) ≡ Err MovedOff)
unfolding move_sheet
whole-range = (refl, refl, refl, refl)

-- missing fields are not judged, and stay 0
missing-fields : move_sheet 2 (sheet_of (negsuc 0) (pos 0) (negsuc 9)) (pos 99999999990) (pos 0) ≡ Ok 2
unfolding move_sheet
missing-fields = refl

-- 6, then 15, then 24
order : (move_of (header 4) 3 (sheet_of (pos 0) (pos 0) (pos 0)) (pos 109999999999) (pos 0) ≡ Err (Refused BadHeader)) × (move_sheet 3 (sheet_of (pos 0) (pos 0) (pos 0)) (pos 109999999999) (pos 0) ≡ Err (Refused (Faulty 2)))
unfolding move_sheet computed
order = (refl, refl)

-- the paper's numbers; a refusal leaves the tables as they were
told : (number_of (Err MovedOff) ≡ 24) × (count_of (Ok 2) ≡ 2) × (count_of (Err MovedOff) ≡ 0) × (number_of (Err (Refused (Faulty 2))) ≡ 15) × (row_of (Err (Refused (Faulty 2))) ≡ 2)
    × (tables_at (Err MovedOff) (tables_of [] [] [] []) (sheet_of (pos 0) (pos 0) (pos 0)) ≡ sheet_of (pos 0) (pos 0) (pos 0))
told = (refl, refl, refl, refl, refl, refl)
