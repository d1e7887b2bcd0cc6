-- `right_listed` meets its contract: the lines of the borders behind the walk are right. Assumes nothing.
use Prim.Native.Nat.{◌-◌}
use lib.ListN.{length}
use Rattle.made.specs.Made.{tables}
use Rattle.order.specs.SupOrder.{sup_in_order}
use Rattle.supcheck.proofs.WalkingWays.{Counting}
use Rattle.supcheck.proofs.walking.right_listed.Given as goal

abbrev pub invariant-loop-j : goal.invariant-loop-j
invariant-loop-j l = Counting l.sheet.header l.sheet.count (tables l.sheet.lent) l.s l.w l.i l.j

abbrev pub decreases-loop-j : goal.decreases-loop-j
decreases-loop-j l = length (sup_in_order l.sheet.header l.sheet.count (tables l.sheet.lent)) - l.i
