-- What the questions about a row's areas have in hand: its counts are held, and a row that was found stands within its tables. Assumes nothing.
use mathlib.Core.Path.{◌≡◌}
use mathlib.Core.List.{List}
use Prim.Native.Nat.{ℕ, ◌≤◌}
use native.Mathlib.Omega.{arith}
use lib.ListN.{length, get_or, take, length-drop}
use lib.IntN.{ℤ, pos}
use Rattle.laws.specs.Lists.{tail}
use Rattle.laws.proofs.ListLaws.{rest-is, part_count}
use Rattle.kinds.specs.Kinds.{islands_place, vertices_place}
use Rattle.heading.specs.declared.Header.{Header}
use Rattle.sheet.specs.Tables.{Tables}
use Rattle.made.specs.Made.{nat_of}
use Rattle.made.proofs.RowWays.{made_held, made_counted}
use Rattle.row.specs.declared.Stand.{Stand}
use Rattle.row.specs.Walk.{cell_in, left_at}
use Rattle.row.proofs.SeekLaws.{Stood}

-- ---- the first row

-- the part `&islands[..i]` has i counts
pub own-count : (i : ℕ) (rows : List ℤ) (islands : List ℕ) → i ≡ nat_of (get_or rows islands_place (pos 0)) → cell_in rows islands_place ≤ length islands → i ≡ length (take i islands)
own-count i rows islands e h = part_count i islands (rw e h)

-- ---- a row of the sheet

-- the table of island counts holds those of a row that was found
pub stood-islands : (h : Header) (count : ℕ) (t : Tables) (k : ℕ) (d : Stand) → Stood h count t k d → (x : Tables) → x ≡ left_at t d → cell_in x.rows islands_place ≤ length x.islands
stood-islands h count t k d s x e = rw e (made_held _ s.made).islands

-- a border has 9,999 vertices at most
pub stood-vertices : (h : Header) (count : ℕ) (t : Tables) (k : ℕ) (d : Stand) → Stood h count t k d → (x : Tables) → x ≡ left_at t d → cell_in x.rows 0 ≡ 1 → cell_in x.rows vertices_place ≤ 9999
stood-vertices h count t k d s x e f = rw e (made_counted (left_at t d) s.made (rw e at f)).vertices
