-- `wide_listed` meets its contract: no border behind the walk has a wide figure. Assumes nothing.
use mathlib.Core.Bool.{not}
use mathlib.Core.Path.{ap}
use native.Mathlib.Omega.{arith}
use lib.ListN.{get_or}
use Rattle.made.specs.Made.{tables}
use Rattle.row.specs.Walk.{first_stand, left_at}
use Rattle.order.proofs.TurnLaws.{turning-more}
use Rattle.sup.proofs.ListedWays.{narrow-known, widening-small, widening-start, widening-end, widening-found, widening-on, widening-next}
use Rattle.sup.proofs.listed.wide_listed.Goals as goal

pub loop-j-init : goal.loop-j-init
loop-j-init c = widening-start c.args.sheet.now.header c.args.sheet.now.count (tables c.args.sheet.now.lent) c.sized.ensures.small c.requires c.next_window-w.result c.next_window-w.ensures

pub offset_bounds-w-j : goal.offset_bounds-w-j
offset_bounds-w-j c = omega (arith, c.loop-j.invariant.turns.inside)

pub bounds-w-j : goal.bounds-w-j
bounds-w-j c = omega (arith, c.loop-j.invariant.turns.inside)

pub overflow_add-result : goal.overflow_add-result
overflow_add-result c = omega (arith, widening-small c.loop-j.invariant c.loop-j-test.true)

pub returns-then-not-is_narrow : goal.returns-then-not-is_narrow
returns-then-not-is_narrow c = let k = narrow-known (left_at (tables c.args.sheet.now.lent) (get_or c.loop-j.w.items c.loop-j.j first_stand)) _ c.metres_at.ensures c.metres_at.type_inv _ c.is_narrow.ensures in
    widening-found c.loop-j.invariant c.loop-j-test.true first_stand _ k (ap not c.if-not-is_narrow.true)

pub overflow_add-i : goal.overflow_add-i
overflow_add-i c = omega (arith, widening-small c.loop-j.invariant c.loop-j-test.true)

pub overflow_add-j : goal.overflow_add-j
overflow_add-j c = omega (arith, c.loop-j.invariant.turns.inside)

pub loop-j-smaller-then-j-eq-WIDTH : goal.loop-j-smaller-then-j-eq-WIDTH
loop-j-smaller-then-j-eq-WIDTH c = let h = turning-more c.loop-j.invariant.turns c.loop-j-test.true in omega arith

pub loop-j-preserved-then-j-eq-WIDTH : goal.loop-j-preserved-then-j-eq-WIDTH
loop-j-preserved-then-j-eq-WIDTH c = let k = narrow-known (left_at (tables c.args.sheet.now.lent) (get_or c.loop-j.w.items c.loop-j.j first_stand)) _ c.metres_at.ensures c.metres_at.type_inv _ c.is_narrow.ensures in
    widening-next c.loop-j.invariant c.loop-j-test.true first_stand _ k (ap not c.if-not-is_narrow.false) c.next_window-w-then-j-eq-WIDTH.result c.next_window-w-then-j-eq-WIDTH.ensures

pub loop-j-smaller : goal.loop-j-smaller
loop-j-smaller c = let h = turning-more c.loop-j.invariant.turns c.loop-j-test.true in omega arith

pub loop-j-preserved : goal.loop-j-preserved
loop-j-preserved c = let k = narrow-known (left_at (tables c.args.sheet.now.lent) (get_or c.loop-j.w.items c.loop-j.j first_stand)) _ c.metres_at.ensures c.metres_at.type_inv _ c.is_narrow.ensures in
    widening-on c.loop-j.invariant c.loop-j-test.true first_stand _ k (ap not c.if-not-is_narrow.false) c.if-j-eq-WIDTH.false

pub returns : goal.returns
returns c = widening-end c.loop-j.invariant c.loop-j-test.false
