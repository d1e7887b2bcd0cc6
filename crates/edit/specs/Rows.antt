-- One row after the other: a test of each, and what each becomes. Assumes nothing: these are definitions.
use Rattle.std.specs.Prelude.{ℕ, zero, suc, List, ◌++◌, Bool, true, ◌&&◌, drop, ℤ}
use Rattle.kinds.specs.Kinds.{row_width}

-- the first n rows pass a test of the first row
unfoldable pub every_row : (List ℤ → Bool) → ℕ → List ℤ → Bool
every_row f zero rows = true
every_row f (suc n) rows = f rows && every_row f n (drop row_width rows)

-- the first n rows, each as f makes it; what stands behind them stays
unfoldable pub each_row : (List ℤ → List ℤ) → ℕ → List ℤ → List ℤ
each_row f zero rows = rows
each_row f (suc n) rows = f rows ++ each_row f n (drop row_width rows)
