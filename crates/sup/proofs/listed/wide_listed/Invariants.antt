-- `wide_listed` meets its contract: no border behind the walk has a wide figure. Assumes nothing.
use Prim.Native.Nat.{◌-◌}
use lib.ListN.{length}
use Rattle.made.specs.Made.{tables}
use Rattle.order.specs.SupOrder.{sup_in_order}
use Rattle.sup.proofs.ListedWays.{Widening}
use Rattle.sup.proofs.listed.wide_listed.Given as goal

abbrev pub invariant-loop-j : goal.invariant-loop-j
invariant-loop-j l = Widening l.sheet.header l.sheet.count (tables l.sheet.lent) l.w l.i l.j

abbrev pub decreases-loop-j : goal.decreases-loop-j
decreases-loop-j l = length (sup_in_order l.sheet.header l.sheet.count (tables l.sheet.lent)) - l.i
