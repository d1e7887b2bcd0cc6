-- The cells of a ring that was traced, and when it is. Assumes nothing.
use mathlib.Core.Path.{◌≡◌, refl, sym, ◌∙◌}
use mathlib.Core.Bool.{Bool, true, false, cond, ◌&&◌}
use mathlib.Core.List.{List}
use Prim.Native.Nat.{ℕ}
use lib.ListN.{length}
use lib.IntN.{ℤ}
use Rattle.std.specs.Prelude.{Option, Some, None, is_some}
use Rattle.laws.proofs.Choice.{and_left, and_right}
use Rattle.plane.specs.Rings.{held}
use Rattle.grid.specs.Inside.{ring-covers}
use Rattle.grid.specs.Words.{grid_side, row_words}
use Rattle.grid.specs.Cells.{is_cell_side, grid-real, near-from, laid, traced_as, untraced, ring_cells}

traced-by : (b : Bool) (p : ℕ → ℕ → Bool) → is_some (cond b (traced_as p) untraced) ≡ b
traced-by true p = refl
traced-by false p = refl

rows-by : (b : Bool) (p : ℕ → ℕ → Bool) (rows : List ℕ) → cond b (traced_as p) untraced ≡ Some rows → rows ≡ row_words p grid_side
rows-by true p rows e = cc
rows-by false p rows e = absurd (let z : ◌≡◌ {A = Option (List ℕ)} None (Some rows) = e in cc)

module _ (ps : List ℤ) (from n : ℕ) (cx cy : ℤ) (s : ℕ) where
  traced-is : is_some (ring_cells ps from n cx cy s) ≡ (laid ps from n cx cy s && near-from ps cx cy from n)
  unfolding ring_cells
  traced-is = traced-by (laid ps from n cx cy s && near-from ps cx cy from n) (ring-covers ps from n cx cy s)

  -- a ring that the table holds, on cells that there are, is traced where the grid and its vertices lie where they may
  pub traced-where : is_cell_side s ≡ true → held (length ps) from n ≡ true → is_some (ring_cells ps from n cx cy s) ≡ (grid-real cx cy s && near-from ps cx cy from n)
  unfolding laid
  traced-where a b = traced-is ∙ rw (a, b)

  module _ (rows : List ℕ) (t : ring_cells ps from n cx cy s ≡ Some rows) where
    pub traced-cells : rows ≡ row_words (ring-covers ps from n cx cy s) grid_side
    unfolding ring_cells
    traced-cells = rows-by (laid ps from n cx cy s && near-from ps cx cy from n) (ring-covers ps from n cx cy s) rows t

    pub traced-held : held (length ps) from n ≡ true
    unfolding laid
    traced-held =
        and_left (held (length ps) from n) (grid-real cx cy s)
        (and_right (is_cell_side s) (held (length ps) from n && grid-real cx cy s) (and_left (laid ps from n cx cy s) (near-from ps cx cy from n) (sym traced-is ∙ rw t)))
