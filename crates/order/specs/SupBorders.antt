-- The borders that a SUP file lists, in row order, and the first whose code is too long: document 02, T-01. Assumes nothing: these are definitions.
-- A border is where its row stands; what it is stands at the front of what is left of the tables there.
use Rattle.std.specs.Prelude.{ℕ, zero, suc, ◌+◌, List, [], ◌∷◌, Bool, false, cond, not, ◌&&◌, eqb, ltb, length, Option, Some, None}
use Rattle.heading.specs.declared.Header.{Header}
use Rattle.sheet.specs.Tables.{Tables}
use Rattle.made.specs.Made.{letters_of}
use Rattle.row.specs.declared.Stand.{Stand}
use Rattle.row.specs.Walk.{first_stand, stand_after, left_at}
use Rattle.classes.specs.declared.Class.{Class}
use Rattle.classes.specs.declared.Class.TheVariants.{Confine, Other, Road, Water, Building, Parcel}
use Rattle.border.specs.declared.Border.{Border}
use Rattle.border.specs.Borders.{is_border, border_of}

-- ---- which borders

-- "A kind 3 sheet lists its OTHER borders, net, in place of parcels"
abbrev pub lists_class : ℕ → Class → Bool
lists_class kind Confine = false
lists_class kind Other = eqb kind 3
lists_class kind Road = false
lists_class kind Water = false
lists_class kind Building = false
lists_class kind Parcel = not (eqb kind 3)

-- a border carries its class
abbrev pub is_wanted : ℕ → Border → Bool
is_wanted kind b = lists_class kind b.class

-- the first row of what is left
unfoldable pub is_in_sup : Header → Tables → Bool
is_in_sup h t = is_border t && is_wanted h.kind (border_of h t)

abbrev pub with_if : Bool → Stand → List Stand → List Stand
with_if b d s = cond b (d ∷ s) s

-- of n rows, the first of which stands at d
unfoldable pub sup_borders_from : Header → Tables → ℕ → Stand → List Stand
sup_borders_from h t zero d = []
sup_borders_from h t (suc n) d = with_if (is_in_sup h (left_at t d)) d (sup_borders_from h t n (stand_after t.rows d))

abbrev pub sup_borders : Header → ℕ → Tables → List Stand
sup_borders h count t = sup_borders_from h t count first_stand

-- ---- "22 listed code over 11 letters (with the first such row)"

abbrev pub code_most : ℕ
code_most = 11

unfoldable pub is_long : Header → Tables → Bool
is_long h t = is_in_sup h t && ltb code_most (length (letters_of t))

-- of n rows, the first of which is row k and stands at d
unfoldable pub first_long_from : Header → Tables → ℕ → ℕ → Stand → Option ℕ
first_long_from h t zero k d = None
first_long_from h t (suc n) k d = cond (is_long h (left_at t d)) (Some k) (first_long_from h t n (k + 1) (stand_after t.rows d))

abbrev pub first_long : Header → ℕ → Tables → Option ℕ
first_long h count t = first_long_from h t count 0 first_stand
