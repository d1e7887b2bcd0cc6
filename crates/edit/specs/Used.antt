-- For private contracts alone: a pair of coordinates at a place of a table, how many vertices the first rows have, and a move by them. Assumes nothing: these are definitions.
use Rattle.std.specs.Prelude.{ℕ, zero, suc, ◌+◌, ◌*◌, List, Bool, ◌&&◌, get_or, set, take, drop, ℤ, pos, ◌+ℤ◌}
use Rattle.laws.specs.Lists.{over}
use Rattle.number.specs.Number.{is_real}
use Rattle.kinds.specs.Kinds.{row_width, vertices_place}
use Rattle.plane.specs.Moved.{moved}
use Rattle.made.specs.Made.{nat_of, are_reals}
use Rattle.edit.specs.Moves.{is_part, rows_stay}

-- an x and a y
unfoldable pub pair_stays : ℤ → ℤ → List ℤ → ℕ → Bool
pair_stays dx dy s p = is_real (get_or s p (pos 0) +ℤ dx) && is_real (get_or s (p + 1) (pos 0) +ℤ dy)

unfoldable pub pair_shifted : ℤ → ℤ → List ℤ → ℕ → List ℤ
pair_shifted dx dy s p = set (set s p (get_or s p (pos 0) +ℤ dx)) (p + 1) (get_or s (p + 1) (pos 0) +ℤ dy)

-- the most vertices whose coordinates the code can count
abbrev pub vertex_most : ℕ
vertex_most = 9223372036854775807

unfoldable pub vertex_count : ℕ → List ℤ → ℕ
vertex_count zero rows = 0
vertex_count (suc n) rows = nat_of (get_or rows vertices_place (pos 0)) + vertex_count n (drop row_width rows)

-- the points that they use
abbrev pub points_used : ℕ → List ℤ → List ℤ → List ℤ
points_used n rows points = take (2 * vertex_count n rows) points

unfoldable pub is_move_of : ℤ → ℤ → ℕ → List ℤ → List ℤ → Bool
is_move_of dx dy n rows points = is_part dx && (is_part dy && (rows_stay dx dy n rows && are_reals (moved dx dy (points_used n rows points))))

abbrev pub moved_points : ℤ → ℤ → ℕ → List ℤ → List ℤ → List ℤ
moved_points dx dy n rows points = over (moved dx dy (points_used n rows points)) points
