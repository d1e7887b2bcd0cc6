-- The class of a border by its letters, and letters that say a surface right: document 01, "Border classes", as document 02's T-02 mends
-- it. Assumes nothing: these are definitions.
use Rattle.std.specs.Prelude.{ℕ, ◌-◌, List, Bool, cond, ◌&&◌, ◌||◌, length, get_or, leb, eqb}
use Prim.Native.String.{String}
use Rattle.laws.specs.Lists.{same}
use Rattle.laws.specs.Text.{text}
use Rattle.classes.specs.declared.Class.{Class}
use Rattle.classes.specs.declared.Class.TheVariants.{Confine, Other, Road, Water, Building, Parcel}

-- ---- letters

-- a quoted character
abbrev pub byte : String → ℕ
byte c = get_or (text c) 0 0

unfoldable pub begins_with : ℕ → List ℕ → Bool
begins_with b s = leb 1 (length s) && eqb (get_or s 0 0) b

unfoldable pub ends_in : ℕ → List ℕ → Bool
ends_in b s = leb 1 (length s) && eqb (get_or s (length s - 1) 0) b

-- beginning with a letter in kind 2
unfoldable pub begins_in_kind2 : ℕ → ℕ → List ℕ → Bool
begins_in_kind2 b kind s = eqb kind 2 && begins_with b s

unfoldable pub is_road : ℕ → List ℕ → Bool
is_road kind s = same s (text "STRADA") || begins_in_kind2 (byte "S") kind s

unfoldable pub is_water : ℕ → List ℕ → Bool
is_water kind s = same s (text "ACQUA") || begins_in_kind2 (byte "A") kind s

-- "OTHER holds only for header kind 3": letters of length 11
unfoldable pub is_other : ℕ → List ℕ → Bool
is_other kind s = eqb kind 3 && eqb (length s) 11

-- ---- the class

-- first rule that holds: letters equal the sheet name, in kind 3 any other letters of length 11, a road, a water, ending in `+`. "In kinds 1
-- and 2 such letters go on to the later rules"
unfoldable pub class_of : ℕ → List ℕ → List ℕ → Class
class_of kind name s =
    cond (same s name) Confine
    (cond (is_other kind s) Other (cond (is_road kind s) Road (cond (is_water kind s) Water (cond (ends_in (byte "+") s) Building Parcel))))

-- a class's place in this order, from 0
abbrev pub index_of : Class → ℕ
index_of Confine = 0
index_of Other = 1
index_of Road = 2
index_of Water = 3
index_of Building = 4
index_of Parcel = 5

-- at least 3 letters from `(` to `)`
unfoldable pub is_surface : List ℕ → Bool
is_surface s = leb 3 (length s) && begins_with (byte "(") s && ends_in (byte ")") s
