-- For private contracts alone: lines whose names stand one behind the other, with what the code has in hand for each. Counts and allowances are cut off
-- where no figure of ten characters tells the difference. Assumes nothing: these are definitions.
use Rattle.std.specs.Prelude.{ℕ, zero, suc, ◌+◌, ◌*◌, List, [], ◌∷◌, cond, length, get_or, take, drop, eqb, ℤ, pos, ◌+ℤ◌, ◌*ℤ◌}
use Rattle.laws.specs.Whole.{low_z}
use Rattle.classes.specs.declared.Class.TheVariants.{Confine, Other, Road, Water, Building, Parcel}
use Rattle.sup.specs.Metres.{doubled_metre}
use Rattle.sup.specs.Lines.{name_width}
use Rattle.sup.specs.Sup.{borders_in, islands_in, union_kind}
use Rattle.supline.specs.Right.{due, DueLine, due_line}
use Rattle.supcheck.specs.Due.{confine_allowance}

-- n lines from the i-th on
unfoldable pub packed_from : List ℕ → List ℤ → List ℤ → ℕ → ℕ → List DueLine
packed_from names exact allowed i zero = []
packed_from names exact allowed i (suc n) =
    due_line (take name_width (drop (name_width * i) names)) (due (get_or exact i (pos 0)) (get_or allowed i (pos 0))) ∷ packed_from names exact allowed (i + 1) n

abbrev pub packed_due : List ℕ → List ℤ → List ℤ → List DueLine
packed_due names exact allowed = packed_from names exact allowed 0 (length exact)

-- one more than a figure can be; more square metres than any figure and any exact area are apart
abbrev pub count_most : ℤ
count_most = pos 10000000000

abbrev pub apart_most : ℤ
apart_most = pos 1000000000000000000

-- a count as an exact area
unfoldable pub count_exact : ℤ → ℤ
count_exact z = pos doubled_metre *ℤ low_z z count_most

-- of a tally `f` and its exact areas `a`
unfoldable pub head_exact : List ℤ → List ℤ → List ℤ
head_exact f a =
    count_exact (borders_in f Building)
    ∷ count_exact (borders_in f Parcel)
    ∷ count_exact (borders_in f Road)
    ∷ count_exact (borders_in f Water)
    ∷ count_exact (islands_in f Confine)
    ∷ get_or a 0 (pos 0)
    ∷ []

unfoldable pub head_allowed : List ℤ → List ℤ
head_allowed f = pos 0 ∷ pos 0 ∷ pos 0 ∷ pos 0 ∷ pos 0 ∷ borders_in f Building ∷ []

unfoldable pub foot_exact : List ℤ → ℤ → ℤ → List ℤ
foot_exact a total b =
    get_or a 1 (pos 0) ∷ get_or a 2 (pos 0) ∷ get_or a 3 (pos 0) ∷ get_or a 4 (pos 0) ∷ total ∷ get_or a 5 (pos 0) ∷ (pos doubled_metre *ℤ b) ∷ []

unfoldable pub parts_allowed : ℕ → List ℤ → ℤ
parts_allowed kind f =
    cond (eqb kind union_kind) (borders_in f Other)
    (low_z (borders_in f Parcel) apart_most +ℤ (low_z (borders_in f Road) apart_most +ℤ (low_z (borders_in f Water) apart_most +ℤ low_z (islands_in f Confine) apart_most)))

unfoldable pub foot_allowed : ℕ → List ℤ → List ℤ
foot_allowed kind f =
    borders_in f Parcel ∷ borders_in f Road ∷ borders_in f Water ∷ islands_in f Confine ∷ parts_allowed kind f ∷ confine_allowance kind f ∷ pos 0 ∷ []
