-- Which centres lie inside a border (document 02, T-03): "inside by the even-odd rule over all rings". Assumes nothing: these are definitions.
use Rattle.std.specs.Prelude.{◌≡◌, Bool, true, ◌&&◌, List, [], ◌∷◌, ℕ, ◌+◌, ◌-◌, ◌<◌, length, get_or, ℤ, is_some}
use Rattle.std.specs.Int.Bits.{bit_xor}
use Rattle.grid.specs.Inside.{centre-x, centre-y, one_if, is_odd, crossings, in-ring}
use Rattle.grid.specs.Words.{grid_side}
use Rattle.grid.specs.Cells.{ring_cells}

-- how many edges count of rings of these sizes, one behind the other from vertex `from` on; a ring of n vertices has n - 1
unfoldable pub all-crossings : List ℤ → ℕ → List ℕ → ℤ → ℤ → ℕ
all-crossings ps from [] x y = 0
all-crossings ps from (n ∷ ns) x y = crossings ps from (n - 1) x y + all-crossings ps (from + n) ns x y

-- the centre (x, y) lies inside the border: its outer ring comes first, its islands behind it
unfoldable pub in-border : List ℤ → List ℕ → ℤ → ℤ → Bool
in-border ps sizes x y = is_odd (all-crossings ps 0 sizes x y)

-- the cell in row r, column c of the grid with its north-west corner at (cx, cy)
unfoldable pub covers : List ℤ → List ℕ → ℤ → ℤ → ℕ → ℕ → ℕ → Bool
covers ps sizes cx cy s r c = in-border ps sizes (centre-x cx s c) (centre-y cy s r)

-- ---- "the same rule, ring by ring"

-- in how many rings of these sizes the centre lies, each judged alone
unfoldable pub rings-round : List ℤ → ℕ → List ℕ → ℤ → ℤ → ℕ
rings-round ps from [] x y = 0
rings-round ps from (n ∷ ns) x y = one_if (in-ring ps from n x y) + rings-round ps (from + n) ns x y

-- ---- for private contracts

-- rings of these sizes can all be traced
unfoldable pub all-traced : List ℤ → ℕ → List ℕ → ℤ → ℤ → ℕ → Bool
all-traced ps from [] cx cy s = true
all-traced ps from (n ∷ ns) cx cy s = is_some (ring_cells ps from n cx cy s) && all-traced ps (from + n) ns cx cy s

-- each of the 64 rows is xored by the other's
pub record TurnedOver (before cells after : List ℕ) : Type 0 where
  pub sized : length after ≡ length before
  pub each : (r : ℕ) → r < grid_side → get_or after r 0 ≡ bit_xor (get_or before r 0) (get_or cells r 0)
