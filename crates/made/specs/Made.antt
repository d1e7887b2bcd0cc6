-- A sheet that is handed in, and when it is well made: document 01, "Sheet tables", and document 02, T-07 (the starts). Assumes nothing: these are definitions.
-- The rows before a row use up what stands before its own part of each table, so a row is judged on what is left of the four.
use Rattle.std.specs.Prelude.{ℕ, zero, suc, ◌+◌, ◌-◌, ◌*◌, List, [], ◌∷◌, ◌++◌, Bool, true, false, cond, not, ◌&&◌, ◌||◌, length, get_or, take, drop, leb, eqb, ℤ, pos, negsuc, Result, Ok, Err}
use Rattle.std.specs.Int.Signed.{le_z}
use Rattle.laws.specs.Lists.{all, below, holds}
use Rattle.laws.specs.Whole.{eq_z}
use Rattle.record.specs.declared.Mode.{Mode}
use Rattle.record.specs.Record.{is_exact, plain}
use Rattle.record.specs.Refusals.{bad_header, unlisted_code, not_made}
use Rattle.number.specs.Words.{blank}
use Rattle.number.specs.Number.{is_real}
use Rattle.token.specs.declared.Want.{Want}
use Rattle.token.specs.declared.Want.TheVariants.{Key, Text, Int, Real}
use Rattle.token.specs.Lex.{kind_most, may_lie_outside}
use Rattle.kinds.specs.Kinds.{row_width, own_width, code_place, letters_place, islands_place, vertices_place, first_letter_place, first_island_place, first_point_place, schedule, unsaid, is_listed, want_at}
use Rattle.heading.specs.declared.Header.{Header}
use Rattle.heading.specs.Heading.{is_header}
use Rattle.sheet.specs.Tables.{Tables, empty, ◌then◌, Starts, no_starts, ◌plus◌, start_cells}
use Rattle.made.specs.declared.Fault.{Fault}
use Rattle.made.specs.declared.Flaw.{Flaw}
use Rattle.made.specs.declared.Flaw.TheVariants.{BadHeader, Faulty, Unlisted}
use Rattle.made.specs.declared.Lent.{Lent}

-- a sheet's tables, from the four lists
abbrev pub tables_of : List ℤ → List ℕ → List ℕ → List ℤ → Tables
tables_of rows letters islands points = record { rows = rows; letters = letters; islands = islands; points = points }

-- the same of tables that are lent
abbrev pub tables : Lent → Tables
tables l = tables_of l.rows.now l.letters.now l.islands.now l.points.now

-- ---- the first row of what is left

-- the number at a place of it, and a count there
abbrev pub cell_at : Tables → ℕ → ℤ
cell_at t p = get_or t.rows p (pos 0)

abbrev pub nat_of : ℤ → ℕ
nat_of (pos n) = n
nat_of (negsuc n) = 0

abbrev pub count_at : Tables → ℕ → ℕ
count_at t p = nat_of (cell_at t p)

abbrev pub kind_of : Tables → ℕ
kind_of t = count_at t 0

abbrev pub letters_of : Tables → List ℕ
letters_of t = take (count_at t letters_place) t.letters

abbrev pub islands_of : Tables → List ℕ
islands_of t = take (count_at t islands_place) t.islands

abbrev pub points_of : Tables → List ℤ
points_of t = take (2 * count_at t vertices_place) t.points

-- its own part of the four tables, and what is left behind it
abbrev pub first_of : Tables → Tables
first_of t = record { rows = take row_width t.rows; letters = letters_of t; islands = islands_of t; points = points_of t }

-- the same without its starts: all that a question on the row looks at
abbrev pub own_of : Tables → Tables
own_of t = record { rows = take own_width t.rows; letters = letters_of t; islands = islands_of t; points = points_of t }

abbrev pub rest_of : Tables → Tables
rest_of t =
    record {
      rows = drop row_width t.rows;
      letters = drop (count_at t letters_place) t.letters;
      islands = drop (count_at t islands_place) t.islands;
      points = drop (2 * count_at t vertices_place) t.points;
    }

-- ---- its own numbers

abbrev pub is_between : ℕ → ℕ → ℤ → Bool
is_between least most z = le_z (pos least) z && le_z z (pos most)

-- letters 1 to 255, integers 0 to 9999, reals within their range
unfoldable pub in_range : Want → ℤ → Bool
in_range Key z = false
in_range Text z = is_between 1 255 z
in_range Int z = is_between 0 9999 z
in_range Real z = is_real z

unfoldable pub has_field : ℕ → ℕ → Bool
has_field kind p = holds (get_or schedule kind []) p

-- outside is 0 or 1, and 1 only where the keyword takes a `\`
unfoldable pub is_outside : ℕ → ℤ → Bool
is_outside kind z = eq_z z (pos 0) || eq_z z (pos 1) && may_lie_outside kind

-- kind 1 to the last; a field the section lacks is 0, or 4 vertices that it does not count
unfoldable pub is_cell : ℕ → ℕ → ℤ → Bool
is_cell kind p z =
    cond (eqb p 0) (is_between 1 kind_most z) (cond (eqb p 1) (is_outside kind z) (cond (has_field kind p) (in_range (want_at p) z) (eq_z z (pos (unsaid kind p)))))

abbrev pub is_cell_at : ℕ → List ℤ → ℕ → Bool
is_cell_at kind rows p = is_cell kind p (get_or rows p (pos 0))

abbrev pub cell_test : List ℤ → ℕ → Bool
cell_test rows p = is_cell_at (nat_of (get_or rows 0 (pos 0))) rows p

-- the row is wholly held, and each of the numbers that its section gives is right
unfoldable pub are_numbers : List ℤ → Bool
are_numbers rows = leb row_width (length rows) && below own_width (cell_test rows)

-- ---- its letters, island counts and points

-- letters are wholly held; bytes 32 to 126, no blank at an end
unfoldable pub are_letters : ℕ → List ℕ → Bool
are_letters n s = leb n (length s) && all plain (take n s) && not (blank (get_or (take n s) 0 0)) && not (blank (get_or (take n s) (n - 1) 0))

unfoldable pub sum : List ℕ → ℕ
sum [] = 0
sum (n ∷ s) = n + sum s

abbrev pub four_at_least : ℕ → Bool
four_at_least n = leb 4 n

-- a border's vertices are at least 4 + 4 times its islands; an island has at least 4, and the islands leave 4 for the outer ring;
-- a line, of the map or of a survey book, has at least 2
unfoldable pub are_counts : ℕ → ℕ → ℕ → List ℕ → Bool
are_counts kind i v s =
    cond (eqb kind 1) (leb (4 + 4 * i) v && leb i (length s) && all four_at_least (take i s) && leb (sum (take i s) + 4) v)
    (not (has_field kind vertices_place) || leb 2 v)

unfoldable pub are_reals : List ℤ → Bool
are_reals [] = true
are_reals (z ∷ s) = is_real z && are_reals s

-- a ring's first and last vertex are equal
unfoldable pub is_closed : ℕ → List ℤ → Bool
is_closed n s = eq_z (get_or s (2 * (n - 1)) (pos 0)) (get_or s 0 (pos 0)) && eq_z (get_or s (2 * (n - 1) + 1) (pos 0)) (get_or s 1 (pos 0))

-- rings of these sizes, one behind the other
unfoldable pub are_closed : List ℕ → List ℤ → Bool
are_closed [] s = true
are_closed (n ∷ ns) s = is_closed n s && are_closed ns (drop (2 * n) s)

-- the outer ring has the rest of the vertices and comes first
unfoldable pub ring_sizes : ℕ → List ℕ → List ℕ
ring_sizes v islands = (v - sum islands) ∷ islands

-- points are wholly held, within the real range, and a border's rings are closed
unfoldable pub are_points : ℕ → ℕ → List ℕ → List ℤ → Bool
are_points kind v islands s =
    leb (2 * v) (length s) && are_reals (take (2 * v) s) && (not (eqb kind 1) || are_closed (ring_sizes v islands) s)

-- ---- the row, and the sheet

-- own numbers, letters, island counts and points
unfoldable pub is_made : Tables → Bool
is_made t =
    are_numbers t.rows && are_letters (count_at t letters_place) t.letters && are_counts (kind_of t) (count_at t islands_place) (count_at t vertices_place) t.islands
    && are_points (kind_of t) (count_at t vertices_place) (islands_of t) t.points

-- the codes that exact reading and writing take
unfoldable pub is_coded : Mode → ℕ → ℕ → Bool
is_coded mode kind code = not (is_exact mode) || not (has_field kind code_place) || is_listed kind code

-- T-07: "each row stores where its letters, islands and points begin, or would begin if it has none"
unfoldable pub are_starts : Starts → List ℤ → Bool
are_starts s rows =
    eq_z (get_or rows first_letter_place (pos 0)) (pos s.letters) && eq_z (get_or rows first_island_place (pos 0)) (pos s.islands)
    && eq_z (get_or rows first_point_place (pos 0)) (pos s.points)

abbrev pub starts_at : ℕ → ℕ → ℕ → Starts
starts_at letters islands points = record { letters = letters; islands = islands; points = points }

-- how many letters, island counts and points the first row has
abbrev pub counts_of : Tables → Starts
counts_of t = starts_at (count_at t letters_place) (count_at t islands_place) (count_at t vertices_place)

-- the first row alone, a sheet of one row: what its section gives, with starts 0, and its own part of the other three tables
abbrev pub alone_of : Tables → Tables
alone_of t = tables_of ((own_of t).rows ++ start_cells no_starts) (own_of t).letters (own_of t).islands (own_of t).points

-- what stands before a row: so many rows, and so many letters, island counts and points
pub record Before : Type 0 where
  pub row : ℕ
  pub starts : Starts

abbrev pub none_before : Before
none_before = record { row = 0; starts = no_starts }

abbrev pub past_row : Before → Tables → Before
past_row b t = record { row = b.row + 1; starts = b.starts plus counts_of t }

-- rows in order, each 15, where its own part or a start is faulty, then 10
unfoldable pub judge_rows : Mode → ℕ → Before → Tables → Result Unit Flaw
judge_rows mode zero b t = Ok tt
judge_rows mode (suc n) b t =
    cond (is_made t && are_starts b.starts t.rows)
    (cond (is_coded mode (kind_of t) (count_at t code_place)) (judge_rows mode n (past_row b t) (rest_of t)) (Err (Unlisted b.row))) (Err (Faulty b.row))

-- the header (6) first. In loose mode any code is taken: that is "well made"
unfoldable pub judge_of : Mode → Header → ℕ → Tables → Result Unit Flaw
judge_of mode h count t = cond (is_header h) (judge_rows mode count none_before t) (Err BadHeader)

-- ---- the paper's number and values

abbrev pub number_of : Result Unit Flaw → ℕ
number_of (Ok u) = 0
number_of (Err BadHeader) = bad_header
number_of (Err (Faulty k)) = not_made
number_of (Err (Unlisted k)) = unlisted_code

abbrev pub row_of : Result Unit Flaw → ℕ
row_of (Ok u) = 0
row_of (Err BadHeader) = 0
row_of (Err (Faulty k)) = k
row_of (Err (Unlisted k)) = k

-- what is wrong with a sheet that was handed in: the row with 15 and 10
abbrev pub fault_of : Result Unit Flaw → Fault
fault_of v = record { number = number_of v; row = row_of v }

-- ---- the part of the tables that the rows use

unfoldable pub used_of : ℕ → Tables → Tables
used_of zero t = empty
used_of (suc n) t = first_of t then used_of n (rest_of t)
