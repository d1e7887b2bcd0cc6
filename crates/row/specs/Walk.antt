-- Where a walk over the rows of a sheet stands in its four tables: letters, island counts and points "stand in three further tables in
-- element order, with no gaps" (document 01, "Sheet tables"); where a row says itself that they begin (document 02, T-07). Assumes nothing: these
-- are definitions.
use Rattle.std.specs.Prelude.{ℕ, zero, suc, ◌+◌, ◌*◌, ◌%◌, ◌^◌, ◌≤◌, cond, List, length, drop, ℤ, pos, nat_le, slice_index_or}
use Rattle.kinds.specs.Kinds.{row_width, letters_place, islands_place, vertices_place, first_letter_place, first_island_place, first_point_place}
use Rattle.sheet.specs.Tables.{Tables}
use Rattle.made.specs.Made.{tables_of, nat_of, Before}
use Rattle.row.specs.declared.Stand.{Stand}

-- the greatest number of the code
abbrev pub word_most : ℕ
word_most = 18446744073709551615

-- a count of the first row
abbrev pub cell_in : List ℤ → ℕ → ℕ
cell_in rows p = nat_of (slice_index_or rows p (pos 0))

abbrev pub first_stand : Stand
first_stand = record { row = 0; letters = 0; islands = 0; points = 0 }

-- past the row that a walk stands at, and its own part of the tables
unfoldable pub next_stand : List ℤ → Stand → Stand
next_stand rows d =
    record {
      row = d.row + row_width;
      letters = d.letters + cell_in (drop d.row rows) letters_place;
      islands = d.islands + cell_in (drop d.row rows) islands_place;
      points = d.points + 2 * cell_in (drop d.row rows) vertices_place;
    }

-- the same as the code has it, for any numbers: sums wrap, and past the table it stays where it is. A walk over rows that were
-- judged meets neither.
abbrev pub wrap : ℕ → ℕ → ℕ
wrap a b = (a + b) % 2 ^ 64

unfoldable pub stand_after : List ℤ → Stand → Stand
stand_after rows d =
    cond (nat_le d.row (length rows))
    (record {
      row = wrap d.row row_width;
      letters = wrap d.letters (cell_in (drop d.row rows) letters_place);
      islands = wrap d.islands (cell_in (drop d.row rows) islands_place);
      points = wrap d.points (wrap (cell_in (drop d.row rows) vertices_place) (cell_in (drop d.row rows) vertices_place));
    })
    d

-- where row k stands: past the k rows before it
unfoldable pub stand_of : ℕ → List ℤ → Stand
stand_of zero rows = first_stand
stand_of (suc k) rows = next_stand rows (stand_of k rows)

-- the same by what stands before the row
abbrev pub stand_at : Before → Stand
stand_at b = record { row = row_width * b.row; letters = b.starts.letters; islands = b.starts.islands; points = 2 * b.starts.points }

-- and by the row's own starts: no row before it is looked at
abbrev pub own_stand : ℕ → List ℤ → Stand
own_stand k rows =
    record {
      row = row_width * k;
      letters = cell_in (drop (row_width * k) rows) first_letter_place;
      islands = cell_in (drop (row_width * k) rows) first_island_place;
      points = 2 * cell_in (drop (row_width * k) rows) first_point_place;
    }

-- what is left of the tables there
abbrev pub left_at : Tables → Stand → Tables
left_at t d = tables_of (drop d.row t.rows) (drop d.letters t.letters) (drop d.islands t.islands) (drop d.points t.points)

-- within tables of these lengths
pub record Stands (rows letters islands points : ℕ) (d : Stand) : Type 0 where
  pub row_in : d.row ≤ rows
  pub letters-in : d.letters ≤ letters
  pub islands-in : d.islands ≤ islands
  pub points-in : d.points ≤ points
