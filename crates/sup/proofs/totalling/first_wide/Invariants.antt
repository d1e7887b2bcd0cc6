-- `first_wide` meets its contract. Invariant: those before `i` are narrow. Assumes nothing.
use Prim.Native.Nat.{◌+◌}
use mathlib.Core.Path.{◌≡◌}
use lib.ListN.{drop}
use Rattle.sup.specs.Sup.{wide_from}
use Rattle.sup.proofs.totalling.first_wide.Given as goal

abbrev pub invariant-loop-i : goal.invariant-loop-i
invariant-loop-i l = wide_from l.from l.figures ≡ wide_from (l.from + l.i) (drop l.i l.figures)
