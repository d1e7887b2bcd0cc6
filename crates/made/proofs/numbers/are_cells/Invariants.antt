-- `made::are_cells`: the numbers passed are right. Assumes nothing.
use Rattle.std.proofs.Common.{◌≡◌, ℕ, ◌<◌, true}
use Rattle.made.specs.Made.{is_cell_at}
use Rattle.made.proofs.numbers.are_cells.Given as goal

abbrev pub invariant-loop-place : goal.invariant-loop-place
invariant-loop-place l = (k : ℕ) → k < l.place → is_cell_at l.kind l.rows k ≡ true
