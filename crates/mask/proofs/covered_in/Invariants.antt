-- `mask::covered_in` meets its contract: its loop. Assumes nothing.
use Prim.Native.Nat.{◌+◌, ◌*◌, ◌≤◌}
use mathlib.Core.Path.{◌≡◌}
use lib.ListN.{drop}
use Rattle.grid.specs.Words.{set_bits}
use Rattle.mask.proofs.covered_in.Given as goal

abbrev pub invariant-loop-row : goal.invariant-loop-row
invariant-loop-row l = (set_bits l.rows ≡ l.n + set_bits (drop l.row-index l.rows)) × (l.n ≤ l.row-index * 64)
