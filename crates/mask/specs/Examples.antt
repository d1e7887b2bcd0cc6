-- Masks of a sheet's borders, computed (document 02, T-03): a courtyard, rings in rings, and each refusal in its order. Assumes nothing.
use Rattle.std.specs.Prelude.{ℕ, ◌+◌, ◌≡◌, refl, true, false, List, [], ◌∷◌, ◌++◌, take, replicate, ℤ, pos, negsuc, Ok, Err}
use Rattle.laws.specs.Text.{text}
use Rattle.heading.specs.declared.Header.{Header}
use Rattle.sheet.specs.Tables.{Tables}
use Rattle.made.specs.Made.{tables_of, ring_sizes}
use Rattle.made.specs.Examples.{header, placed, label, border}
use Rattle.row.specs.Examples.{computed as computed_sought}
use Rattle.area.specs.Examples.{computed as computed_areas}
use Rattle.grid.specs.Examples.{computed_count}
use Rattle.mask.specs.declared.Mask.{Mask}
use Rattle.mask.specs.declared.Unmasked.TheVariants.{BadSide}
use Rattle.mask.specs.Covers.{all-crossings, in-border, covers}
use Rattle.mask.specs.Masks.{border_mask, mask_of, mask_of_row, mask_at, number_of, row_of, covered_of}

-- `mask_at` with every definition opened, so that it computes
unfoldable pub computed : Header → ℕ → Tables → ℕ → ℤ → ℤ → ℤ → Mask
unfolding mask_at mask_of_row mask_of border_mask covers in-border all-crossings computed_sought computed_areas computed_count ring_sizes
computed h count t row cx cy side = mask_at h count t row cx cy side

-- a square from (a, a) to (b, b)
abbrev square : ℕ → ℕ → List ℤ
square a b = pos a ∷ pos a ∷ pos b ∷ pos a ∷ pos b ∷ pos b ∷ pos a ∷ pos b ∷ pos a ∷ pos a ∷ []

-- a square of side 8 whose west side lies at x
abbrev square_at : ℕ → List ℤ
square_at x = pos x ∷ pos 0 ∷ pos (x + 8) ∷ pos 0 ∷ pos (x + 8) ∷ pos 8 ∷ pos x ∷ pos 8 ∷ pos x ∷ pos 0 ∷ []

-- a text; a square of side 8 with a courtyard of side 4 in its middle
abbrev court : Tables
court = tables_of (label ++ placed 1 0 0 (border 0 1 10)) (text "77") (5 ∷ []) (square 0 8 ++ square 2 6)

asked : ℕ → ℤ → ℤ → ℤ → Mask
unfolding computed
asked row cx cy side = mask_at (header 1) 2 court row cx cy side

-- cells of side 2, the corner at (0, 8): 1111, 1001, 1001, 1111, then nothing
court-rows : take 5 (asked 1 (pos 0) (pos 8) (pos 2)).rows ≡ 17293822569102704640 ∷ 10376293541461622784 ∷ 10376293541461622784 ∷ 17293822569102704640 ∷ 0 ∷ []
unfolding asked
court-rows = refl

court-covered : (asked 1 (pos 0) (pos 8) (pos 2)).answer ≡ Ok 12
unfolding asked
court-covered = refl

-- ---- rings in rings: the centre of row 1, column 1

abbrev two_courts : List ℤ
two_courts = square 0 8 ++ square 2 6 ++ square 2 6

-- inside the outer ring and two islands it is set; outside the outer ring and inside one island, too
in-rings : (covers two_courts (5 ∷ []) (pos 0) (pos 8) 2 1 1 ≡ true) × (covers two_courts (5 ∷ 5 ∷ []) (pos 0) (pos 8) 2 1 1 ≡ false) × (covers two_courts (5 ∷ 5 ∷ 5 ∷ []) (pos 0) (pos 8) 2 1 1 ≡ true)
    × (covers (square 10 12 ++ square 2 6) (5 ∷ 5 ∷ []) (pos 0) (pos 8) 2 1 1 ≡ true)
unfolding computed
in-rings = (refl, refl, refl, refl)

-- ---- refusals: the number and the row; no cell is set, and none counted

refusal_of : Mask → ℕ × ℕ × ℕ × List ℕ
refusal_of m = (number_of m.answer, row_of m.answer, covered_of m.answer, m.rows)

abbrev refusal : ℕ → ℕ → ℕ × ℕ × ℕ × List ℕ
refusal number row = (number, row, 0, replicate 64 0)

-- 20: the corner 40,000,001 mm from a vertex, in x and in y; a grid that ends past the real range, though all vertices are near
off-grid : (refusal_of (asked 1 (pos 40000001) (pos 8) (pos 2)) ≡ refusal 20 0) × (refusal_of (asked 1 (pos 0) (negsuc 39999992) (pos 2)) ≡ refusal 20 0)
    × (refusal_of (mask_at (header 1) 1 (tables_of (border 0 0 5) (text "7") [] (square_at 99999999000)) 0 (pos 99999999000) (pos 8) (pos 16)) ≡ refusal 20 0)
unfolding asked refusal_of
off-grid = (refl, refl, refl)

-- 17 comes before 20: an island that is too wide
abbrev wide_court : Tables
wide_court = tables_of (border 0 1 10) (text "7") (5 ∷ []) (square 0 8 ++ square 2 20000003)

too_wide : (refusal_of (mask_at (header 1) 1 wide_court 0 (pos 99999999999) (pos 8) (pos 2)) ≡ refusal 17 0) × ((mask_at (header 1) 1 wide_court 0 (pos 99999999999) (pos 8) (pos 0)).answer ≡ Err BadSide)
unfolding computed refusal_of
too_wide = (refl, refl)

-- 26 comes before 17: 1 and 10,000 pass
bad-side : (refusal_of (mask_at (header 1) 1 wide_court 0 (pos 0) (pos 8) (pos 10001)) ≡ refusal 26 0) × (refusal_of (asked 1 (pos 0) (pos 8) (pos 0)) ≡ refusal 26 0) × (refusal_of (asked 1 (pos 0) (pos 8) (negsuc 0)) ≡ refusal 26 0)
    × ((asked 1 (pos 0) (pos 8) (pos 1)).answer ≡ Ok 48) × ((asked 1 (pos 0) (pos 8) (pos 10000)).answer ≡ Ok 0)
unfolding asked refusal_of
bad-side = (refl, refl, refl, refl, refl)

-- 19 comes before 26: a text, a row past the last
no-border : (refusal_of (asked 0 (pos 0) (pos 8) (pos 0)) ≡ refusal 19 0) × (refusal_of (asked 2 (pos 0) (pos 8) (pos 0)) ≡ refusal 19 0)
unfolding asked refusal_of
no-border = (refl, refl)

-- 15 comes before 19 and names the row, also where a start is false (T-07); 6 before all
no-sheet : (refusal_of (mask_at (header 1) 2 (tables_of (label ++ border 0 1 10) (text "77") (5 ∷ []) (square 0 8 ++ square 2 6)) 9 (pos 0) (pos 8) (pos 0)) ≡ refusal 15 1)
    × (refusal_of (mask_at (header 1) 3 court 9 (pos 0) (pos 8) (pos 0)) ≡ refusal 15 2) × (refusal_of (mask_at (header 4) 3 court 9 (pos 0) (pos 8) (pos 0)) ≡ refusal 6 0)
unfolding computed refusal_of
no-sheet = (refl, refl, refl)
