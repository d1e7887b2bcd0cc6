-- What a record stores in the tables that are lent. Assumes nothing: these are definitions.
use Rattle.std.specs.Prelude.{ℕ, ◌+◌, ◌-◌, ◌*◌, ◌≤◌, ◌≡◌, List, false, cond, length, take, drop, set, eqb, ℤ}
use Rattle.laws.specs.Lists.{pasted}
use Rattle.record.specs.declared.Mode.{Mode}
use Rattle.number.specs.Words.{trimmed}
use Rattle.token.specs.Lex.{unlift}
use Rattle.quick.specs.Seen.{RealAt}
use Rattle.kinds.specs.Kinds.{row_width, letters_place, want_at}
use Rattle.machine.specs.declared.State.{State}
use Rattle.machine.specs.declared.State.TheVariants.{Due, Field, Island, X, Y}
use Rattle.sheet.specs.Tables.{Tables, empty, Starts, new_row, cell_of}
use Rattle.sheet.specs.Reading.{Sections, read, stop}
use Rattle.reader.specs.Turn.{onward, turn_of}
use Rattle.reader.specs.declared.Needs.{Needs}
use Rattle.reader.specs.declared.ReadStand.{ReadStand}

-- no token is larger: the largest real, lifted
abbrev pub token_most : ℕ
token_most = 109999999999

-- an island's count is an integer, and its table holds it
abbrev pub IslandToken : State → ℕ → Type 0
IslandToken Due t = Unit {0}
IslandToken (Field k p i) t = Unit {0}
IslandToken (Island l s r) t = t ≤ 9999
IslandToken (X r) t = Unit {0}
IslandToken (Y r x) t = Unit {0}

-- a number of a row holds each count
abbrev pub Counted : Needs → Type 0
Counted a = (a.letters ≤ token_most) × (a.islands ≤ token_most) × (a.points ≤ token_most)

-- where the letters, island counts and points of the next row begin
abbrev pub starts_behind : Needs → Starts
starts_behind a = record { letters = a.letters; islands = a.islands; points = a.points }

-- the tables that hold `a` already, after a record with the token t and the content c
abbrev pub rows_put : State → ℕ → Needs → List ℤ → List ℤ
rows_put Due t a l = pasted l (row_width * a.rows) (new_row t (starts_behind a))
rows_put (Field k p i) t a l = set l (row_width * (a.rows - 1) + p) (cell_of (want_at p) t)
rows_put (Island l' s r) t a l = l
rows_put (X r) t a l = l
rows_put (Y r x) t a l = l

abbrev pub letters_put : State → List ℕ → Needs → List ℕ → List ℕ
letters_put Due c a l = l
letters_put (Field k p i) c a l = cond (eqb p letters_place) (pasted l a.letters (trimmed c)) l
letters_put (Island l' s r) c a l = l
letters_put (X r) c a l = l
letters_put (Y r x) c a l = l

abbrev pub islands_put : State → ℕ → Needs → List ℕ → List ℕ
islands_put Due t a l = l
islands_put (Field k p i) t a l = l
islands_put (Island l' s r) t a l = set l a.islands t
islands_put (X r) t a l = l
islands_put (Y r x) t a l = l

abbrev pub points_put : State → ℕ → Needs → List ℤ → List ℤ
points_put Due t a l = l
points_put (Field k p i) t a l = l
points_put (Island l' s r) t a l = l
points_put (X r) t a l = set l (2 * a.points) (unlift t)
points_put (Y r x) t a l = set l (2 * a.points + 1) (unlift t)

-- room for that
abbrev pub PutRoom : State → List ℕ → Needs → ℕ → ℕ → ℕ → ℕ → Type 0
PutRoom Due c a rows letters islands points = row_width * a.rows + row_width ≤ rows
PutRoom (Field k p i) c a rows letters islands points = (1 ≤ a.rows) × (row_width * a.rows ≤ rows) × (p ≤ 11) × (a.letters + cond (eqb p letters_place) (length (trimmed c)) 0 ≤ letters)
PutRoom (Island l' s r) c a rows letters islands points = a.islands + 1 ≤ islands
PutRoom (X r) c a rows letters islands points = 2 * a.points + 1 ≤ points
PutRoom (Y r x) c a rows letters islands points = 2 * a.points + 2 ≤ points

-- the tables of sections that were read
abbrev pub section_tables : Sections → Tables
section_tables (read o eof) = o
section_tables (stop m k at) = empty

-- the sections are read, and tables of these lengths hold them
abbrev pub Room : Sections → ℕ → ℕ → ℕ → ℕ → Type 0
Room (read o eof) rows letters islands points =
    (length o.rows ≤ rows) × (length o.letters ≤ letters) × (length o.islands ≤ islands) × (length o.points ≤ points)
Room (stop m k at) rows letters islands points = ⊥

-- ---- a run of numbers of a row

abbrev pub AtNumber : State → Type 0
AtNumber Due = ⊥
AtNumber (Field k p i) = eqb p letters_place ≡ false
AtNumber (Island l s r) = ⊥
AtNumber (X r) = ⊥
AtNumber (Y r x) = ⊥

-- turns at numbers of a row, and what they leave in the table of rows
pub data Enters (mode : Mode) (s : List ℕ) (d : ReadStand) (l : List ℤ) : ReadStand → List ℤ → Type 0 where
  at_rest : Enters mode s d l d l
  entered : {e f : ReadStand} {m : List ℤ} {t len : ℕ} → Enters mode s d l e m → AtNumber e.state → turn_of mode s e ≡ onward f t len
      → Enters mode s d l f (rows_put e.state t e.needs m)

-- ---- a run of vertices

-- k vertices from `at` up to a place, stored into a table that has `from` points before them
pub data VerticesStored (mode : Mode) (s : List ℕ) (at from : ℕ) (l : List ℤ) : ℕ → ℕ → List ℤ → Type 0 where
  none : VerticesStored mode s at from l 0 at l
  more : {k a w x w' y : ℕ} {m : List ℤ} → VerticesStored mode s at from l k a m → RealAt mode s a w x → RealAt mode s (a + w) w' y
      → VerticesStored mode s at from l (k + 1) (a + w + w') (set (set m (2 * (from + k)) (unlift x)) (2 * (from + k) + 1) (unlift y))

abbrev pub AtVertex : State → Type 0
AtVertex Due = ⊥
AtVertex (Field k p i) = ⊥
AtVertex (Island l s r) = ⊥
AtVertex (X r) = Unit {0}
AtVertex (Y r x) = Unit {0}

-- turns at vertices, and what they leave in the table of points
pub data Stores (mode : Mode) (s : List ℕ) (d : ReadStand) (l : List ℤ) : ReadStand → List ℤ → Type 0 where
  still : Stores mode s d l d l
  on : {e f : ReadStand} {m : List ℤ} {t len : ℕ} → Stores mode s d l e m → AtVertex e.state → turn_of mode s e ≡ onward f t len
      → Stores mode s d l f (points_put e.state t e.needs m)

-- ---- any turns

-- turns one behind the other, and what they leave in the four tables
pub data Puts (mode : Mode) (s : List ℕ) (d : ReadStand) (r : List ℤ) (l i : List ℕ) (p : List ℤ) : ReadStand → List ℤ → List ℕ → List ℕ → List ℤ → Type 0 where
  no-turn : Puts mode s d r l i p d r l i p
  turned : {e f : ReadStand} {r' p' : List ℤ} {l' i' : List ℕ} {t len : ℕ} → Puts mode s d r l i p e r' l' i' p' → turn_of mode s e ≡ onward f t len
      → Puts mode s d r l i p f (rows_put e.state t e.needs r') (letters_put e.state (take len (drop e.at s)) e.needs l') (islands_put e.state t e.needs i')
      (points_put e.state t e.needs p')

-- turns that leave the island counts alone
abbrev pub RowsPut : Mode → List ℕ → ReadStand → List ℤ → List ℕ → List ℤ → ReadStand → List ℤ → List ℕ → List ℤ → Type 0
RowsPut mode s d r l p e r' l' p' = (i : List ℕ) → Puts mode s d r l i p e r' l' i p'
