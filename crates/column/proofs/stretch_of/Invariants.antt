-- `stretch_of` meets its contract: what is counted, and what goes on from there. Assumes nothing.
use Prim.Native.Nat.{◌+◌}
use mathlib.Core.Path.{◌≡◌}
use lib.ListN.{drop}
use Rattle.column.specs.Spots.{stretch}
use Rattle.column.proofs.stretch_of.Given as goal

abbrev pub invariant-loop-i : goal.invariant-loop-i
invariant-loop-i l = stretch l.mode l.fn.start l.c ≡ l.i + stretch l.mode l.at (drop l.i l.c)
