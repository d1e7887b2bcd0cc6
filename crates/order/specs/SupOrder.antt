-- The borders that a SUP file lists, in its order: document 02, T-01, "Parcels go by bytes of their code, equal codes by rising exact area".
-- Assumes nothing: these are definitions.
use Rattle.std.specs.Prelude.{ℕ, List, Bool, ℤ, pos, Result, Ok, Err}
use Rattle.std.specs.declared.cmp.Ordering.{Ordering}
use Rattle.heading.specs.declared.Header.{Header}
use Rattle.sheet.specs.Tables.{Tables}
use Rattle.made.specs.Made.{letters_of}
use Rattle.row.specs.declared.Stand.{Stand}
use Rattle.row.specs.Walk.{left_at}
use Rattle.plane.specs.declared.NoArea.{NoArea}
use Rattle.area.specs.Questions.{net_area_of}
use Rattle.order.specs.Compare.{or_else, is_before, by_number, by_whole, by_bytes}
use Rattle.order.specs.Sorting.{sort_by}
use Rattle.order.specs.SupBorders.{sup_borders}

-- the exact area of the first row of what is left. 0 where a ring is too wide, so that any rows have an order: the tally refuses
-- such a sheet (17)
abbrev pub whole_of : Result ℤ NoArea → ℤ
whole_of (Ok d) = d
whole_of (Err e) = pos 0

unfoldable pub net_left : Tables → ℤ
net_left t = whole_of (net_area_of t)

-- "by bytes of their code, equal codes by rising exact area"
unfoldable pub by_code_and_net : Tables → Stand → Stand → Ordering
by_code_and_net t a b = or_else (by_bytes (letters_of (left_at t a)) (letters_of (left_at t b))) (by_whole (net_left (left_at t a)) (net_left (left_at t b)))

abbrev pub paper_before : Tables → Stand → Stand → Bool
paper_before t a b = is_before (by_code_and_net t a b)

-- where both are equal the lines are too; by row, so that no two are the same
unfoldable pub comes_at : Tables → Stand → Stand → Ordering
comes_at t a b = or_else (by_code_and_net t a b) (by_number a.row b.row)

unfoldable pub goes_before : Tables → Stand → Stand → Bool
goes_before t a b = is_before (comes_at t a b)

unfoldable pub sup_in_order : Header → ℕ → Tables → List Stand
sup_in_order h count t = sort_by (goes_before t) (sup_borders h count t)
