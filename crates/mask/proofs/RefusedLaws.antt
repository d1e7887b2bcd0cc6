-- "Refusals: 6, 15, 19" before 26, 17 and 20 (document 02, T-03), by number and row; and "the number of covered cells is the sum of each row's set bits",
-- of every answer: a refused mask has no cell set. Assumes nothing.
use Prim.Native.Nat.{ℕ}
use mathlib.Core.Path.{◌≡◌, refl}
use mathlib.Core.Bool.{Bool, ◌&&◌}
use mathlib.Core.List.{List}
use lib.ListN.{replicate}
use lib.Dec.{eqb}
use lib.IntN.{ℤ}
use lib.Count.{ones}
use Rattle.laws.proofs.Choice.{cond-elim}
use Rattle.heading.specs.declared.Header.{Header}
use Rattle.sheet.specs.Tables.{Tables}
use Rattle.kinds.specs.Kinds.{vertices_place}
use Rattle.made.specs.Made.{nat_of, count_at, kind_of, islands_of, ring_sizes}
use Rattle.std.specs.Prelude.{Result, Ok, Err}
use Rattle.plane.specs.declared.NoArea.{NoArea}
use Rattle.plane.specs.declared.NoArea.TheVariants.{Wide as AnyWide, Missing as AnyMissing}
use Rattle.row.specs.declared.Stand.{Stand}
use Rattle.row.specs.declared.Unfound.{Unfound}
use Rattle.row.specs.Walk.{left_at}
use Rattle.row.specs.Seek.{sought_of}
use Rattle.row.specs.Seek as Seek
use Rattle.area.specs.declared.Areas.{Areas}
use Rattle.area.specs.BorderRings.{areas_of}
use Rattle.grid.specs.Words.{grid_side, set_bits}
use Rattle.grid.specs.Cells.{is_cell_side, grid-real, near-from}
use Rattle.grid.proofs.WordLaws.{words-set}
use Rattle.mask.specs.declared.Mask.{Mask}
use Rattle.mask.specs.declared.Unmasked.{Unmasked}
use Rattle.mask.specs.declared.Unmasked.TheVariants.{BadSide, Wide, OffGrid, Missing, Refused}
use Rattle.mask.specs.Covers.{covers}
use Rattle.mask.specs.Masks.{undrawn, drawn, mask_after, border_mask, mask_of, mask_of_row, mask_found, mask_at, number_of, row_of, covered_of}

-- a row that is not found is refused as it is sought
pub mask-refused : (h : Header) (count : ℕ) (t : Tables) (k : ℕ) (cx cy side : ℤ) → (Seek.number_of (sought_of h count t k) ≡ 0 → ⊥)
    → (number_of (mask_at h count t k cx cy side).answer ≡ Seek.number_of (sought_of h count t k)) × (row_of (mask_at h count t k cx cy side).answer ≡ Seek.row_of (sought_of h count t k))
unfolding mask_at
mask-refused h count t k cx cy side refused = by (sought_of h count t k) refused
  where
    by : (s : Result Stand Unfound) → (Seek.number_of s ≡ 0 → ⊥) → (number_of (mask_found cx cy (nat_of side) t s).answer ≡ Seek.number_of s) × (row_of (mask_found cx cy (nat_of side) t s).answer ≡ Seek.row_of s)
    by (Ok d) f = absurd (f refl)
    by (Err Unfound.Missing) f = (refl, refl)
    by (Err (Unfound.Refused v)) f = (refl, refl)

-- ---- of every answer

-- the count is the rows' own, and a refused mask's rows are all 0
abbrev pub Counted : Mask → Type 0
Counted m = (set_bits m.rows ≡ covered_of m.answer) × ((number_of m.answer ≡ 0 → ⊥) → m.rows ≡ replicate grid_side 0)

none-set : set_bits (replicate grid_side 0) ≡ 0
unfolding set_bits ones
none-set = refl

off-counted : (e : Unmasked) → Counted (undrawn e)
off-counted e = (none-set, λ f. refl)

drawn-counted : (p : ℕ → ℕ → Bool) → Counted (drawn p)
drawn-counted p = (words-set p grid_side, λ f. absurd (f refl))

after-counted : (m : Mask) → Counted m → (x : Result Areas NoArea) → Counted (mask_after m x)
after-counted m c (Ok a) = c
after-counted m c (Err AnyWide) = off-counted Wide
after-counted m c (Err AnyMissing) = off-counted Missing

pub border-counted : (v : ℕ) (islands : List ℕ) (ps : List ℤ) (cx cy : ℤ) (s : ℕ) → Counted (mask_of v islands ps cx cy s)
unfolding mask_of border_mask
border-counted v islands ps cx cy s =
    cond-elim Counted (is_cell_side s) _ _
    (λ _. after-counted (border_mask v islands ps cx cy s)
    (cond-elim Counted (grid-real cx cy s && near-from ps cx cy 0 v) _ _ (λ _. drawn-counted (covers ps (ring_sizes v islands) cx cy s)) (λ _. off-counted OffGrid)) (areas_of v islands ps))
    (λ _. off-counted BadSide)

pub mask-counted : (h : Header) (count : ℕ) (t : Tables) (k : ℕ) (cx cy side : ℤ) → Counted (mask_at h count t k cx cy side)
unfolding mask_at mask_of_row
mask-counted h count t k cx cy side = by (sought_of h count t k)
  where
    by : (s : Result Stand Unfound) → Counted (mask_found cx cy (nat_of side) t s)
    by (Ok d) =
        let x = left_at t d in
        cond-elim Counted (eqb (kind_of x) 1) _ _ (λ _. border-counted (count_at x vertices_place) (islands_of x) x.points cx cy (nat_of side)) (λ _. off-counted Missing)
    by (Err Unfound.Missing) = off-counted Missing
    by (Err (Unfound.Refused v)) = off-counted (Refused v)
