-- A sheet that is moved (document 02, T-08): "Moving adds one whole-millimetre pair to every vertex, position, inner point and label point; sizes,
-- angles and missing fields don't change". Assumes nothing: these are definitions.
use Rattle.std.specs.Prelude.{ℕ, suc, List, [], ◌∷◌, Bool, cond, not, ◌&&◌, ◌||◌, get_or, take, leb, eqb, ℤ, pos, nat_abs, ◌+ℤ◌, Result, Ok, Err}
use Rattle.laws.specs.Lists.{below, over}
use Rattle.record.specs.declared.Mode.TheVariants.{Loose}
use Rattle.number.specs.Number.{is_real}
use Rattle.kinds.specs.Kinds.{row_width, x_place, x2_place, y2_place}
use Rattle.heading.specs.declared.Header.{Header}
use Rattle.plane.specs.Moved.{moved}
use Rattle.sheet.specs.Tables.{Tables}
use Rattle.made.specs.declared.Flaw.{Flaw}
use Rattle.made.specs.Made.{nat_of, has_field, are_reals, judge_of, used_of}
use Rattle.edit.specs.declared.Unedited.{Unedited}
use Rattle.edit.specs.Rows.{every_row, each_row}
use Rattle.edit.specs.declared.Unedited.TheVariants.{MovedOff, Refused}

-- ---- the pair

-- how far a part of it may go, either way: what the real range is wide
abbrev pub move_most : ℕ
move_most = 109999999998

unfoldable pub is_part : ℤ → Bool
is_part d = leb (nat_abs d) move_most

-- ---- a row

-- a place of a row moves exactly if the section has that field and it is x, y or the second x, y
unfoldable pub is_moved : ℕ → ℕ → Bool
is_moved kind p = (leb x_place p && leb p y2_place) && has_field kind p

-- the part of the pair that moves it
unfoldable pub part_at : ℤ → ℤ → ℕ → ℤ
part_at dx dy p = cond (eqb p x_place || eqb p x2_place) dx dy

unfoldable pub moved_cell : ℤ → ℤ → ℕ → ℕ → ℤ → ℤ
moved_cell dx dy kind p z = cond (is_moved kind p) (z +ℤ part_at dx dy p) z

-- numbers of a row from place p on
unfoldable pub moved_cells : ℤ → ℤ → ℕ → ℕ → List ℤ → List ℤ
moved_cells dx dy kind p [] = []
moved_cells dx dy kind p (z ∷ s) = moved_cell dx dy kind p z ∷ moved_cells dx dy kind (suc p) s

-- the first row
unfoldable pub moved_row : ℤ → ℤ → List ℤ → List ℤ
moved_row dx dy rows = moved_cells dx dy (nat_of (get_or rows 0 (pos 0))) 0 (take row_width rows)

-- n rows; what stands behind them stays
abbrev pub moved_rows : ℤ → ℤ → ℕ → List ℤ → List ℤ
moved_rows dx dy n rows = each_row (moved_row dx dy) n rows

-- ---- the sheet

-- n rows and the points that they use; letters, island counts and what stands behind stay
unfoldable pub moved_tables : ℤ → ℤ → ℕ → Tables → Tables
moved_tables dx dy n t = record { rows = moved_rows dx dy n t.rows; letters = t.letters; islands = t.islands; points = over (moved dx dy (used_of n t).points) t.points }

-- "any coordinate would leave the real range": a number of the first row that moves stays in it
abbrev pub cell_stays : ℤ → ℤ → List ℤ → ℕ → Bool
cell_stays dx dy rows p = not (is_moved (nat_of (get_or rows 0 (pos 0))) p) || is_real (get_or rows p (pos 0) +ℤ part_at dx dy p)

unfoldable pub row_stays : ℤ → ℤ → List ℤ → Bool
row_stays dx dy rows = below row_width (cell_stays dx dy rows)

abbrev pub rows_stay : ℤ → ℤ → ℕ → List ℤ → Bool
rows_stay dx dy n rows = every_row (row_stays dx dy) n rows

-- neither part is too far, and every coordinate stays
unfoldable pub is_move : ℤ → ℤ → ℕ → Tables → Bool
is_move dx dy n t = is_part dx && (is_part dy && (rows_stay dx dy n t.rows && are_reals (moved dx dy (used_of n t).points)))

-- the header (6), then 15, then 24
abbrev pub moved_after : Result Unit Flaw → ℕ → Bool → Result ℕ Unedited
moved_after (Ok u) count b = cond b (Ok count) (Err MovedOff)
moved_after (Err f) count b = Err (Refused f)

unfoldable pub move_of : Header → ℕ → Tables → ℤ → ℤ → Result ℕ Unedited
move_of h count t dx dy = moved_after (judge_of Loose h count t) count (is_move dx dy count t)
