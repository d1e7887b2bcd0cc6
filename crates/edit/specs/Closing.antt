-- For private contracts alone: a table that is closed up, starts that fall in the first rows, and where the last row ends. Assumes nothing: these are definitions.
use Rattle.std.specs.Prelude.{ℕ, ◌+◌, ◌-◌, ◌*◌, List, ◌++◌, Bool, ◌&&◌, get_or, set, take, drop, ℤ, pos, ◌-ℤ◌}
use Rattle.std.specs.Int.Signed.{le_z}
use Rattle.laws.specs.Lists.{over}
use Rattle.kinds.specs.Kinds.{row_width, letters_place, islands_place, vertices_place, first_letter_place, first_island_place, first_point_place}
use Rattle.sheet.specs.Tables.{Starts}
use Rattle.row.specs.declared.Stand.{Stand}
use Rattle.row.specs.Walk.{cell_in}
use Rattle.edit.specs.Removals.{fall_from}

-- a table that is used up to `end`, with n taken out at a place
abbrev pub closed_up {ℓ} : {A : Type ℓ} → ℕ → ℕ → ℕ → List A → List A
closed_up at n end s = over (take (end - n) (take at s ++ drop (at + n) s)) s

-- ---- starts

-- the greatest start of a row
abbrev pub start_most : ℕ
start_most = 9223372036854775807

unfoldable pub lowered : ℕ → ℕ → List ℤ → List ℤ
lowered p n s = set s p (get_or s p (pos 0) -ℤ pos n)

-- the starts of the first row are not below 0
unfoldable pub is_up : List ℤ → Bool
is_up rows = le_z (pos 0) (get_or rows first_letter_place (pos 0)) && (le_z (pos 0) (get_or rows first_island_place (pos 0)) && le_z (pos 0) (get_or rows first_point_place (pos 0)))

-- the first row with its starts less so many
unfoldable pub fallen_row : Starts → List ℤ → List ℤ
fallen_row s rows = fall_from s 0 (take row_width rows)

-- ---- behind the last of n rows, by its own starts and counts

unfoldable pub end_stand : ℕ → List ℤ → Stand
end_stand n rows =
    record {
      row = row_width * n;
      letters = cell_in (drop (row_width * (n - 1)) rows) first_letter_place + cell_in (drop (row_width * (n - 1)) rows) letters_place;
      islands = cell_in (drop (row_width * (n - 1)) rows) first_island_place + cell_in (drop (row_width * (n - 1)) rows) islands_place;
      points = 2 * (cell_in (drop (row_width * (n - 1)) rows) first_point_place + cell_in (drop (row_width * (n - 1)) rows) vertices_place);
    }
