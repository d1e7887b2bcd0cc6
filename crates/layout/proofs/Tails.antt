-- What the records from a state to the end of its section make of the section's tables, and what their bytes are. Assumes nothing.
-- `part` is what the section has so far, `now` what it has at its end, `cs` the bytes in between.
use mathlib.Core.Path.{◌≡◌}
use mathlib.Core.List.{List, [], ◌∷◌, ◌++◌}
use mathlib.Core.Bool.{Bool, true, false, cond, not, ◌&&◌, ◌||◌}
use Prim.Native.Nat.{ℕ, ◌+◌, ◌-◌, ◌*◌, ◌≤◌}
use lib.ListN.{length, get_or, drop}
use lib.IntN.{ℤ, pos}
use Rattle.laws.specs.Lists.{all, holds}
use Rattle.laws.specs.Whole.{eq_z}
use Rattle.std.specs.Prelude.{Some, None, Ok, Err}
use Rattle.record.specs.declared.Mode.{Mode}
use Rattle.record.specs.declared.Mode.TheVariants.{Exact}
use Rattle.record.specs.Record.{is_exact, plain}
use Rattle.number.specs.Words.{blank}
use Rattle.token.specs.Lex.{kind_most, unlift}
use Rattle.kinds.specs.Kinds.{row_width, code_place, letters_place, islands_place, vertices_place, unsaid, is_listed, want_at}
use Rattle.machine.specs.declared.Ring.{Ring}
use Rattle.machine.specs.declared.State.{State}
use Rattle.machine.specs.declared.State.TheVariants.{Due, Field, Island, X, Y}
use Rattle.machine.specs.Machine.{Step}
use Rattle.sheet.specs.Tables.{Tables}
use Rattle.made.specs.Made.{cell_at, count_at, letters_of, in_range, has_field, sum, four_at_least, are_counts, are_reals, are_closed, are_points}
use Rattle.layout.specs.Sheet.{fields_text, integers_text, reals_text}
use Rattle.layout.proofs.ScheduleLaws.{ahead}

-- ---- points

-- the rings behind the one at work
abbrev pub sizes_left : Ring → Tables → List ℕ
sizes_left r o = drop (length o.islands - r.rings) o.islands

-- with these points to come the ring at work closes, and so do those behind it; where it is fresh its first vertex is the first to come
unfoldable pub closing : Bool → ℕ → ℕ → ℕ → List ℕ → List ℤ → Bool
closing fresh left fx fy ms s =
    eq_z (get_or s (2 * (left - 1)) (pos 0)) (cond fresh (get_or s 0 (pos 0)) (unlift fx))
    && eq_z (get_or s (2 * (left - 1) + 1) (pos 0)) (cond fresh (get_or s 1 (pos 0)) (unlift fy))
    && are_closed ms (drop (2 * left) s)

-- the points of a ring and of those behind it; `x` is what was read of the vertex at work
pub record PointsTail (mode : Mode) (r : Ring) (x : List ℤ) (part now : Tables) (cs : List ℕ) : Type 0 where
  pub more : List ℤ
  pub is : now ≡ record { rows = part.rows; letters = part.letters; islands = part.islands; points = part.points ++ more }
  pub long : length (x ++ more) ≡ 2 * (r.left + sum (sizes_left r part))
  pub reals : are_reals more ≡ true
  pub closes : r.closed ≡ true → (after : List ℤ) → closing r.fresh r.left r.fx r.fy (sizes_left r part) (x ++ more ++ after) ≡ true
  pub text : mode ≡ Exact → reals_text more ≡ cs

-- ---- island counts, and then the points of all rings

pub record IslandsTail (mode : Mode) (left spare : ℕ) (part now : Tables) (cs : List ℕ) : Type 0 where
  pub counts : List ℕ
  pub more : List ℤ
  pub is : now ≡ record { rows = part.rows; letters = part.letters; islands = part.islands ++ counts; points = part.points ++ more }
  pub counted : length counts ≡ left
  pub four : all four_at_least counts ≡ true
  pub most : sum counts + 4 ≤ spare
  pub long : length more ≡ 2 * (spare - sum counts + sum (part.islands ++ counts))
  pub reals : are_reals more ≡ true
  pub closes : (after : List ℤ) → are_closed ((spare - sum counts) ∷ (part.islands ++ counts)) (more ++ after) ≡ true
  pub text : mode ≡ Exact → integers_text counts ++ reals_text more ≡ cs

-- ---- fields, and then what follows them

-- letters: as many as said, bytes 32 to 126, no blank at an end
pub record Lettered (n : ℕ) (s : List ℕ) : Type 0 where
  pub counted : length s ≡ n
  pub good : all plain s ≡ true
  pub first : blank (get_or s 0 0) ≡ false
  pub last : blank (get_or s (length s - 1) 0) ≡ false

-- a row's island counts and points are right, whatever follows them
pub record Body (kind : ℕ) (now : Tables) : Type 0 where
  pub islands : length now.islands ≡ count_at now islands_place
  pub points : length now.points ≡ 2 * count_at now vertices_place
  pub counts : (after : List ℕ) → are_counts kind (count_at now islands_place) (count_at now vertices_place) (now.islands ++ after) ≡ true
  pub closes : (after : List ℤ) → are_points kind (count_at now vertices_place) now.islands (now.points ++ after) ≡ true

-- a field that the section lacks is as it leaves it
abbrev pub Lacking : ℕ → Tables → Type 0
Lacking kind now = (p : ℕ) → 2 ≤ p → p ≤ 11 → has_field kind p ≡ false → cell_at now p ≡ pos (unsaid kind p)

-- tables that begin with these: their first row, and its letters
pub record Begins (now o : Tables) : Type 0 where
  pub cells : (p : ℕ) → p ≤ 11 → cell_at o p ≡ cell_at now p
  pub letters : letters_of o ≡ now.letters

-- the fields `ps` are read, and the other cells are kept
pub record FieldsTail (mode : Mode) (kind : ℕ) (ps : List ℕ) (part now : Tables) (cs : List ℕ) : Type 0 where
  pub wide : length now.rows ≡ row_width
  pub kept : (p : ℕ) → holds ps p ≡ false → cell_at now p ≡ cell_at part p
  pub ranged : (p : ℕ) → holds ps p ≡ true → in_range (want_at p) (cell_at now p) ≡ true
  pub no_letters : holds ps letters_place ≡ false → now.letters ≡ part.letters
  pub lettered : holds ps letters_place ≡ true → Lettered (count_at now letters_place) now.letters
  pub coded : holds ps code_place ≡ true → (not (is_exact mode) || is_listed kind (count_at now code_place)) ≡ true
  pub body : Lacking kind now → Body kind now
  pub text : mode ≡ Exact → (o : Tables) → Begins now o → fields_text o ps ++ (integers_text now.islands ++ reals_text now.points) ≡ cs

-- ---- by the state

abbrev pub Tail : Mode → State → Tables → Tables → List ℕ → Type 0
Tail mode Due part now cs = (now ≡ part) × (cs ≡ [])
Tail mode (Field kind p i) part now cs = FieldsTail mode kind (ahead kind p) part now cs
Tail mode (Island l s r) part now cs = IslandsTail mode l s part now cs
Tail mode (X r) part now cs = PointsTail mode r [] part now cs
Tail mode (Y r x) part now cs = PointsTail mode r (unlift x ∷ []) part now cs

-- what is known of a section's tables on the way
pub record AtField (kind p i : ℕ) (part : Tables) : Type 0 where
  pub low : kind ≤ kind_most
  pub most : p ≤ 11
  pub field : has_field kind p ≡ true
  pub wide : length part.rows ≡ row_width
  pub islands : part.islands ≡ []
  pub points : part.points ≡ []
  pub count : count_at part islands_place ≡ i
  pub letters : holds (ahead kind p) letters_place ≡ true → part.letters ≡ []

pub record AtIsland (left rings : ℕ) (part : Tables) : Type 0 where
  pub some : 1 ≤ left
  pub all_in : length part.islands + left ≡ rings
  pub four : all four_at_least part.islands ≡ true

pub record AtRing (r : Ring) (part : Tables) : Type 0 where
  pub some : 1 ≤ r.left
  pub all_in : r.rings ≤ length part.islands
  pub four : all four_at_least part.islands ≡ true

abbrev pub Known : State → Tables → Type 0
Known Due part = Unit {0}
Known (Field kind p i) part = AtField kind p i part
Known (Island l s r) part = AtIsland l r part
Known (X r) part = AtRing r part
Known (Y r x) part = AtRing r part

-- where a step leads, that is known, and what follows makes `P` of the section's end
abbrev pub StepTail : Mode → Tables → (Tables → List ℕ → Type 0) → Step → Type 0
StepTail mode part P (Ok (Some st)) = Known st part × ((now : Tables) (cs : List ℕ) → Tail mode st part now cs → P now cs)
StepTail mode part P (Ok None) = Unit {0}
StepTail mode part P (Err m) = Unit {0}
