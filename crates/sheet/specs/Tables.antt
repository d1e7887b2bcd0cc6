-- The sheet tables: document 01, "Sheet tables"; a row's starts: document 02, T-07. Assumes nothing: these are definitions.
use Rattle.std.specs.Prelude.{ℕ, suc, ◌+◌, ◌-◌, ◌/◌, ◌%◌, List, [], ◌∷◌, ◌++◌, cond, length, get_or, set, replicate, eqb, ℤ, pos, ◌+ℤ◌}
use Rattle.laws.specs.Lists.{over}
use Rattle.number.specs.Words.{trimmed}
use Rattle.kinds.specs.Kinds.{row_width, letters_place, first_letter_place, first_island_place, first_point_place, fixed_vertices, want_at}
use Rattle.token.specs.Lex.{unlift}
use Rattle.token.specs.declared.Want.{Want}
use Rattle.token.specs.declared.Want.TheVariants.{Key, Text, Int, Real}
use Rattle.machine.specs.declared.State.{State}
use Rattle.machine.specs.declared.State.TheVariants.{Due, Field, Island, X, Y}

-- each element is a row of 15 numbers; letters, island counts and points (x, y) stand in element order, with no gaps
pub record Tables : Type 0 where
  pub rows : List ℤ
  pub letters : List ℕ
  pub islands : List ℕ
  pub points : List ℤ

abbrev pub empty : Tables
empty = record { rows = []; letters = []; islands = []; points = [] }

-- what stands behind each table, put there as it is
infixl 40 ◌then◌
abbrev pub ◌then◌ : Tables → Tables → Tables
a then b = record { rows = a.rows ++ b.rows; letters = a.letters ++ b.letters; islands = a.islands ++ b.islands; points = a.points ++ b.points }

-- how many rows they hold
abbrev pub row_count : Tables → ℕ
row_count o = length o.rows / row_width

-- tables that held `old` and now hold `o` from their start, as a reading leaves them
abbrev pub over_of : Tables → Tables → Tables
over_of o old = record { rows = over o.rows old.rows; letters = over o.letters old.letters; islands = over o.islands old.islands; points = over o.points old.points }

-- ---- where a row's letters, island counts and points begin

pub record Starts : Type 0 where
  pub letters : ℕ
  pub islands : ℕ
  pub points : ℕ

abbrev pub no_starts : Starts
no_starts = record { letters = 0; islands = 0; points = 0 }

-- behind both
infixl 40 ◌plus◌
abbrev pub ◌plus◌ : Starts → Starts → Starts
a plus b = record { letters = a.letters + b.letters; islands = a.islands + b.islands; points = a.points + b.points }

-- where those of the next row begin; points are counted in points
abbrev pub starts_of : Tables → Starts
starts_of o = record { letters = length o.letters; islands = length o.islands; points = length o.points / 2 }

-- as a row has them
abbrev pub start_cells : Starts → List ℤ
start_cells s = pos s.letters ∷ pos s.islands ∷ pos s.points ∷ []

-- by how much the number at a place of a row is moved on, where the row comes to stand behind so many letters, island counts and points
unfoldable pub move_at : Starts → ℕ → ℕ
move_at s p = cond (eqb p first_letter_place) s.letters (cond (eqb p first_island_place) s.islands (cond (eqb p first_point_place) s.points 0))

-- the numbers of rows, the first of them at place p, counted on through the rows
unfoldable pub move_from : Starts → ℕ → List ℤ → List ℤ
move_from s p [] = []
move_from s p (z ∷ zs) = (z +ℤ pos (move_at s (p % row_width))) ∷ move_from s (suc p) zs

-- rows whose starts are moved on by so many letters, island counts and points
abbrev pub moved_on : Starts → List ℤ → List ℤ
moved_on s rows = move_from s 0 rows

-- elements that come to stand behind so many
abbrev pub starting_at : Starts → Tables → Tables
starting_at s o = record { rows = moved_on s o.rows; letters = o.letters; islands = o.islands; points = o.points }

-- **the elements of one sheet followed by those of another**: the second's starts are moved on by the first's counts
infixl 40 ◌followed◌
abbrev pub ◌followed◌ : Tables → Tables → Tables
a followed b = a then starting_at (starts_of a) b

-- ---- what a record puts there

-- kind and outside; a field the section lacks is 0, but for the vertices that it does not count
abbrev pub own_cells : ℕ → List ℤ
own_cells t = pos (t / 2) ∷ pos (t % 2) ∷ (replicate 9 (pos 0) ++ pos (fixed_vertices (t / 2)) ∷ [])

-- a row at its keyword: what the section gives is to come, the starts are there
abbrev pub new_row : ℕ → Starts → List ℤ
new_row t s = own_cells t ++ start_cells s

-- a token as a number of a row
abbrev pub cell_of : Want → ℕ → ℤ
cell_of Key t = pos t
cell_of Text t = pos t
cell_of Int t = pos t
cell_of Real t = unlift t

-- a field goes into the last row
unfoldable pub set_last : List ℤ → ℕ → ℤ → List ℤ
set_last rows p z = set rows (length rows - row_width + p) z

-- what a record adds to the tables: `c` is its content, `t` its token
unfoldable pub put : State → ℕ → List ℕ → Tables → Tables
put Due t c o = record { rows = o.rows ++ new_row t (starts_of o); letters = o.letters; islands = o.islands; points = o.points }
put (Field kind p i) t c o =
    record { rows = set_last o.rows p (cell_of (want_at p) t); letters = o.letters ++ cond (eqb p letters_place) (trimmed c) []; islands = o.islands; points = o.points }
put (Island left spare rings) t c o = record { rows = o.rows; letters = o.letters; islands = o.islands ++ t ∷ []; points = o.points }
put (X r) t c o = record { rows = o.rows; letters = o.letters; islands = o.islands; points = o.points ++ unlift t ∷ [] }
put (Y r x) t c o = record { rows = o.rows; letters = o.letters; islands = o.islands; points = o.points ++ unlift t ∷ [] }

-- how many rings follow the one at work
abbrev pub rings_of : State → ℕ
rings_of Due = 0
rings_of (Field kind p i) = 0
rings_of (Island left spare rings) = 0
rings_of (X r) = r.rings
rings_of (Y r x) = r.rings

-- the size of the next ring: the islands that are to come are the last of the table
unfoldable pub ring_after : State → Tables → ℕ
ring_after st o = get_or o.islands (length o.islands - rings_of st) 0
