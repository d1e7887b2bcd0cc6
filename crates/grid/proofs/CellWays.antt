-- The ways through `ring_cells`, each with what the code has in hand there. Assumes nothing.
use mathlib.Core.Path.{◌≡◌, sym, ◌∙◌, ap}
use mathlib.Core.Bool.{Bool, true, false, not}
use mathlib.Core.List.{List}
use Prim.Native.Nat.{ℕ}
use lib.IntN.{ℤ}
use mir.Syntax.{w64}
use mir.Val.{SFits, to_z, of_z}
use mir.Facts.{to_z-of_z}
use borrow.Author.Tests.{not-true, not-false}
use Rattle.std.specs.Prelude.{Option, Some, None}
use Rattle.grid.specs.Inside.{ring-covers}
use Rattle.grid.specs.Cells.{near-from, laid, ring_cells}
use Rattle.grid.specs.Trace.{RowsHold}
use Rattle.grid.proofs.HoldLaws.{hold-words}

abbrev bits : ℤ → ℤ
bits z = to_z w64 (of_z w64 z)

module _ (ps : List ℤ) (from n : ℕ) (cx cy : ℤ) (cell : ℕ) (f : SFits w64 cx) (g : SFits w64 cy) (a : Bool) (ea : a ≡ laid ps from n (bits cx) (bits cy) cell) where
  is-a : a ≡ laid ps from n cx cy cell
  is-a = rw (to_z-of_z f, to_z-of_z g) at ea

  pub cells-off : not a ≡ true → None ≡ ring_cells ps from n cx cy cell
  unfolding ring_cells
  cells-off t = rw (sym is-a ∙ not-true a t)

  module _ (ta : not a ≡ false) where
    pub cells-laid : laid ps from n (bits cx) (bits cy) cell ≡ true
    cells-laid = sym ea ∙ not-false a ta

    module _ (b : Bool) (eb : b ≡ near-from ps (bits cx) (bits cy) from n) where
      is_b : b ≡ near-from ps cx cy from n
      is_b = rw (to_z-of_z f, to_z-of_z g) at eb

      pub cells-far : not b ≡ true → None ≡ ring_cells ps from n cx cy cell
      unfolding ring_cells
      cells-far t = rw (sym is-a ∙ not-false a ta, sym is_b ∙ not-true b t)

      pub cells-traced : not b ≡ false → (m : List ℕ) → (b ≡ true → RowsHold (ring-covers ps from n (bits cx) (bits cy) cell) m)
          → ◌≡◌ {A = Option (List ℕ)} (Some m) (ring_cells ps from n cx cy cell)
      unfolding ring_cells
      cells-traced t m h =
          rw (sym is-a ∙ not-false a ta, sym is_b ∙ not-false b t)
          (ap (λ (l : List ℕ). Some l) (hold-words (ring-covers ps from n cx cy cell) m (rw (to_z-of_z f, to_z-of_z g) at (h (not-false b t)))))
