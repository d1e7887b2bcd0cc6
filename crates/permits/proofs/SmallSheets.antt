-- The small sheets that are asked about, and what it is to hand one in: document 01, "Sheet tables". Assumes nothing.
use Prim.Native.Nat.{ℕ}
use mathlib.Core.Path.{◌≡◌, refl}
use mathlib.Core.List.{List, [], ◌∷◌, ◌++◌}
use lib.IntN.{ℤ, pos, negsuc}
use denote.Ref.{Bor}
use Rattle.laws.specs.Text.{text}
use Rattle.heading.specs.declared.Header.{Header}
use Rattle.heading.specs.Heading.{no_header}
use Rattle.sheet.specs.Tables.{Tables}
use Rattle.made.specs.declared.Sheet.{Sheet}
use Rattle.made.specs.Made.{tables, tables_of}
use Rattle.told.specs.Asked.{header_of}

-- a sheet with this header, count of rows and tables
pub record Handed (h : Header) (count : ℕ) (t : Tables) (s : Sheet) : Type 0 where
  pub header-is : s.header ≡ h
  pub count-is : s.count ≡ count
  pub tables-are : tables s.lent ≡ t

-- arguments that begin with a count of rows and the four tables have this count and these tables
pub record Tabled {X : Type 0} (count : ℕ) (t : Tables) (a : ℕ × (Bor (List ℤ) × (Bor (List ℕ) × (Bor (List ℕ) × (Bor (List ℤ) × X))))) : Type 0 where
  pub count-is : a.0 ≡ count
  pub rows_are : a.1.0.now ≡ t.rows
  pub letters-are : a.1.1.0.now ≡ t.letters
  pub islands-are : a.1.1.1.0.now ≡ t.islands
  pub points-are : a.1.1.1.1.0.now ≡ t.points

-- the same of a count and the contents of four tables, some of which are lent to be altered
pub record Lent (count : ℕ) (t : Tables) (n : ℕ) (rows : List ℤ) (letters islands : List ℕ) (points : List ℤ) : Type 0 where
  pub count-is : n ≡ count
  pub rows_are : rows ≡ t.rows
  pub letters-are : letters ≡ t.letters
  pub islands-are : islands ≡ t.islands
  pub points-are : points ≡ t.points

-- ---- headers

abbrev pub header : Header
header = record { kind = 2; name = text "Z999_000100"; scale = pos 1000000 }

-- of no kind, and of a name of 12 bytes
abbrev pub no_kind : Header
no_kind = record { kind = 4; name = text "Z999_000100"; scale = pos 1000000 }

abbrev pub long_name : Header
long_name = record { kind = 2; name = text "Z999_0001000"; scale = pos 1000000 }

-- each as C hands it in
pub in-C : header_of header.kind header.name header.scale ≡ header
unfolding header_of
in-C = refl

pub no-kind-in-C : header_of no_kind.kind no_kind.name no_kind.scale ≡ no_kind
unfolding header_of
no-kind-in-C = refl

pub long-name-in-C : header_of long_name.kind long_name.name long_name.scale ≡ no_header
unfolding header_of
long-name-in-C = refl

-- ---- sheets of four rows

-- row 0, a text of size 0; row 1, a parcel with an island; row 2, a text in brackets; row 3, a building of size 0, whose points are said to begin at `first`
abbrev rows : ℕ → List ℤ
rows first =
    pos 2 ∷ pos 1 ∷ pos 0 ∷ pos 0 ∷ pos 500 ∷ pos 3000 ∷ negsuc 4 ∷ pos 0 ∷ pos 0 ∷ pos 2 ∷ pos 0 ∷ pos 0 ∷ pos 0 ∷ pos 0 ∷ pos 0 ∷
    pos 1 ∷ pos 0 ∷ pos 0 ∷ pos 18 ∷ pos 90 ∷ pos 1 ∷ pos 2 ∷ pos 3 ∷ negsuc 3 ∷ pos 1 ∷ pos 1 ∷ pos 9 ∷ pos 2 ∷ pos 0 ∷ pos 0 ∷
    pos 2 ∷ pos 0 ∷ pos 0 ∷ pos 18 ∷ pos 0 ∷ pos 5 ∷ pos 6 ∷ pos 0 ∷ pos 0 ∷ pos 3 ∷ pos 0 ∷ pos 0 ∷ pos 3 ∷ pos 1 ∷ pos 9 ∷
    pos 1 ∷ pos 0 ∷ pos 0 ∷ pos 0 ∷ pos 0 ∷ pos 7 ∷ pos 8 ∷ pos 9 ∷ pos 10 ∷ pos 2 ∷ pos 0 ∷ pos 5 ∷ pos 6 ∷ pos 1 ∷ pos first ∷ []

-- the parcel's square of the doubled area 200, then its island, of the doubled area side * side
abbrev parcel : ℕ → List ℤ
parcel side =
    pos 10 ∷ pos 20 ∷ pos 20 ∷ pos 20 ∷ pos 20 ∷ pos 30 ∷ pos 10 ∷ pos 30 ∷ pos 10 ∷ pos 20 ∷
    pos 0 ∷ pos 0 ∷ pos side ∷ pos 0 ∷ pos side ∷ pos side ∷ pos 0 ∷ pos 0 ∷ []

-- the building's ring, whose edges 0 and 2 cross, of the doubled area 600
abbrev building : List ℤ
building = pos 0 ∷ pos 0 ∷ pos 30 ∷ pos 30 ∷ pos 30 ∷ pos 0 ∷ pos 0 ∷ pos 10 ∷ pos 0 ∷ pos 0 ∷ []

abbrev with_points : ℕ → List ℤ → Tables
with_points first points = tables_of (rows first) (text "S79(7)8+") (4 ∷ []) points

-- by the island's side: small, larger than the parcel, too wide
abbrev pub sheet : ℕ → Tables
sheet side = with_points 9 (parcel side ++ building)

abbrev pub small : Tables
small = sheet 2

abbrev pub large : Tables
large = sheet 20

abbrev pub wide : Tables
wide = sheet 20000001

-- row 3 has no points
abbrev pub faulty : Tables
faulty = with_points 9 (parcel 2)

-- row 3 says that its points begin one point too early
abbrev pub false_start : Tables
false_start = with_points 8 (parcel 2 ++ building)

-- ---- a sheet of one row: a parcel of eleven letters

abbrev pub eleven : Tables
eleven = tables_of (pos 1 ∷ pos 0 ∷ pos 0 ∷ pos 18 ∷ pos 0 ∷ pos 7 ∷ pos 8 ∷ pos 9 ∷ pos 10 ∷ pos 11 ∷ pos 0 ∷ pos 5 ∷ pos 0 ∷ pos 0 ∷ pos 0 ∷ []) (text "12345678901") [] building
