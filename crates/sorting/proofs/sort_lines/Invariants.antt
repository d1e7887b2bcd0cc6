-- `sort_lines` meets its contract: all passes only exchange lines, and the last leaves them in order. Assumes nothing.
use Prim.Native.Nat.{◌≤◌}
use lib.ListN.{length}
use Rattle.sorting.specs.Exchanges.{Exchanges}
use Rattle.sorting.proofs.sort_lines.Given as goal

abbrev pub invariant-loop-gap : goal.invariant-loop-gap
invariant-loop-gap l = (l.gap ≤ length l.initial.s) × Exchanges l.initial.s l.s

abbrev pub decreases-loop-gap : goal.decreases-loop-gap
decreases-loop-gap l = l.gap
