-- `right_listed` meets its contract: the lines of the borders behind the walk are right. Assumes nothing.
use mathlib.Core.Bool.{not}
use mathlib.Core.Path.{ap}
use native.Mathlib.Omega.{arith}
use Rattle.made.specs.Made.{tables}
use Rattle.row.specs.Walk.{first_stand}
use Rattle.order.proofs.TurnLaws.{turning-more}
use Rattle.supcheck.proofs.WalkingWays.{counting-start, counting-end, counting-small, counting-stop, counting-on, counting-next}
use Rattle.supcheck.proofs.walking.right_listed.Goals as goal

pub loop-j-init : goal.loop-j-init
loop-j-init c = counting-start c.args.sheet.now.header c.args.sheet.now.count (tables c.args.sheet.now.lent) c.args.s.now c.sized.ensures.small c.requires c.guided_window-w.result c.guided_window-w.ensures

pub offset_bounds-w-j : goal.offset_bounds-w-j
offset_bounds-w-j c = omega (arith, c.loop-j.invariant.turns.inside)

pub bounds-w-j : goal.bounds-w-j
bounds-w-j c = omega (arith, c.loop-j.invariant.turns.inside)

pub overflow_add-i : goal.overflow_add-i
overflow_add-i c = omega (arith, counting-small c.loop-j.invariant c.loop-j-test.true, c.sized.ensures.few)

pub returns-then-not-is_right_border : goal.returns-then-not-is_right_border
returns-then-not-is_right_border c = counting-stop c.loop-j.invariant c.loop-j-test.true first_stand _ c.line_from.ensures _ c.is_right_border.ensures (ap not c.if-not-is_right_border.true)

pub overflow_add-i-in-loop-j : goal.overflow_add-i-in-loop-j
overflow_add-i-in-loop-j c = omega (arith, counting-small c.loop-j.invariant c.loop-j-test.true, c.sized.ensures.few)

pub overflow_add-j : goal.overflow_add-j
overflow_add-j c = omega (arith, c.loop-j.invariant.turns.inside)

pub overflow_add-i-then-j-eq-WIDTH : goal.overflow_add-i-then-j-eq-WIDTH
overflow_add-i-then-j-eq-WIDTH c = omega (arith, counting-small c.loop-j.invariant c.loop-j-test.true, c.sized.ensures.few)

pub loop-j-smaller-then-j-eq-WIDTH : goal.loop-j-smaller-then-j-eq-WIDTH
loop-j-smaller-then-j-eq-WIDTH c = let h = turning-more c.loop-j.invariant.turns c.loop-j-test.true in omega arith

pub loop-j-preserved-then-j-eq-WIDTH : goal.loop-j-preserved-then-j-eq-WIDTH
loop-j-preserved-then-j-eq-WIDTH c = counting-next c.loop-j.invariant c.loop-j-test.true first_stand _ c.line_from.ensures _ c.is_right_border.ensures (ap not c.if-not-is_right_border.false) c.guided_window-w-then-j-eq-WIDTH.result c.guided_window-w-then-j-eq-WIDTH.ensures

pub loop-j-smaller : goal.loop-j-smaller
loop-j-smaller c = let h = turning-more c.loop-j.invariant.turns c.loop-j-test.true in omega arith

pub loop-j-preserved : goal.loop-j-preserved
loop-j-preserved c = counting-on c.loop-j.invariant c.loop-j-test.true first_stand _ c.line_from.ensures _ c.is_right_border.ensures (ap not c.if-not-is_right_border.false) c.if-j-eq-WIDTH.false

pub returns : goal.returns
returns c = counting-end c.loop-j.invariant c.loop-j-test.false
