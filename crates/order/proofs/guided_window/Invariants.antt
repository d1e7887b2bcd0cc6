-- `order::guided_window` meets its contract: what is to come is put into what is held; a walk that is guided and does not fill the window is
-- made once more, unguided. The first inner loop finds the place, the second carries each item one place on. Assumes nothing.
use Prim.Native.Nat.{◌+◌, ◌-◌}
use mathlib.Core.Bool.{cond}
use Rattle.made.specs.Made.{tables}
use Rattle.order.specs.SupOrder.{goes_before}
use Rattle.order.specs.Windows.{window_width}
use Rattle.order.proofs.GuideLaws.{up_to}
use Rattle.order.proofs.PlaceWays.{Halving}
use Rattle.order.proofs.ShiftWays.{Shifting}
use Rattle.order.proofs.WindowWays.{Filling}
use Rattle.order.proofs.guided_window.Given as goal

abbrev pub invariant-loop-low : goal.invariant-loop-low
invariant-loop-low l = Halving (goes_before (tables l.sheet.lent)) l.d l.items l.n l.low l.high

abbrev pub decreases-loop-low : goal.decreases-loop-low
decreases-loop-low l = l.high - l.low

abbrev pub invariant-loop-i : goal.invariant-loop-i
invariant-loop-i l = Shifting (window_width + 1) l.initial.items l.n l.low l.d l.items l.carried l.i

abbrev pub invariant-loop : goal.invariant-loop
invariant-loop l = Filling l.sheet.header l.sheet.count (tables l.sheet.lent) l.since (up_to (tables l.sheet.lent) l.guide l.guided) l.items l.n l.d l.counter

abbrev pub invariant-loop-d : goal.invariant-loop-d
invariant-loop-d l = Unit

abbrev pub decreases-loop-d : goal.decreases-loop-d
decreases-loop-d l = cond l.guided 1 0
