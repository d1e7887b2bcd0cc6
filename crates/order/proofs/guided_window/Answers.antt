-- `order::guided_window` meets its contract: what is to come is put into what is held; a walk that is guided and does not fill the window is
-- made once more, unguided. The first inner loop finds the place, the second carries each item one place on. Assumes nothing.
use mathlib.Core.Path.{◌∙◌}
use native.Mathlib.Omega.{arith}
use Rattle.made.specs.Made.{tables}
use Rattle.order.proofs.GuideLaws.{up_to, within-up, passed-by, guided-full, unguided}
use Rattle.order.proofs.PlaceWays.{halving-down, halving-up, halving-end, middle-in}
use Rattle.order.proofs.ShiftWays.{shift_in, shift-more}
use Rattle.order.proofs.WindowWays.{filling-start, filling-halves, filling-past, filling-by, filling-shift, filling-in, filling-end}
use Rattle.order.proofs.guided_window.Goals as goal
use Rattle.order.proofs.guided_window.Goals.{then-n-eq-WIDTH-via-then-n-eq-WIDTH, then-n-eq-WIDTH-via-else-n-eq-WIDTH+then-not-guided, then-is_within+then-joins_window+else-loop-low-test+else-loop-i-test, then-is_within+else-joins_window, else-is_within}

pub loop-d-init : goal.loop-d-init
loop-d-init c = tt

pub loop-init : goal.loop-init
loop-init c = let t = tables c.args.sheet.now.lent in filling-start c.args.sheet.now.header c.args.sheet.now.count t c.args.since (up_to t c.args.guide.now c.loop-d.guided) c.empty_items-items.result c.empty_items-items.ensures c.first_stand-d.result c.first_stand-d.ensures

pub loop-low-init : goal.loop-low-init
loop-low-init c = filling-halves c.loop.invariant

pub overflow_sub-middle : goal.overflow_sub-middle
overflow_sub-middle c = omega arith

pub overflow_add-middle : goal.overflow_add-middle
overflow_add-middle c = let m = middle-in c.loop-low.low c.loop-low.high c.loop-low-test.true in omega arith

pub offset_bounds-items-middle : goal.offset_bounds-items-middle
offset_bounds-items-middle c = let m = middle-in c.loop-low.low c.loop-low.high c.loop-low-test.true in omega (arith, c.loop-low.invariant.most, c.loop.invariant.room)

pub bounds-items-middle : goal.bounds-items-middle
bounds-items-middle c = let m = middle-in c.loop-low.low c.loop-low.high c.loop-low-test.true in omega (arith, c.loop-low.invariant.most, c.loop.invariant.room)

pub loop-low-smaller-then-is_before : goal.loop-low-smaller-then-is_before
loop-low-smaller-then-is_before c = let m = middle-in c.loop-low.low c.loop-low.high c.loop-low-test.true in omega arith

pub loop-low-preserved-then-is_before : goal.loop-low-preserved-then-is_before
loop-low-preserved-then-is_before c = let m = middle-in c.loop-low.low c.loop-low.high c.loop-low-test.true in halving-down c.loop-low.invariant _ _ m _ c.is_before.ensures c.if-is_before.true

pub overflow_add-low : goal.overflow_add-low
overflow_add-low c = let m = middle-in c.loop-low.low c.loop-low.high c.loop-low-test.true in omega arith

pub loop-low-smaller : goal.loop-low-smaller
loop-low-smaller c = let m = middle-in c.loop-low.low c.loop-low.high c.loop-low-test.true in omega arith

pub loop-low-preserved : goal.loop-low-preserved
loop-low-preserved c = let m = middle-in c.loop-low.low c.loop-low.high c.loop-low-test.true in halving-up c.loop-low.invariant _ _ m _ c.is_before.ensures c.if-is_before.false

pub loop-i-init : goal.loop-i-init
loop-i-init c = filling-shift c.loop.invariant c.loop-test.true (within-up _ _ c.args.sheet.now.lent.islands.now c.args.sheet.now.lent.points.now c.loop.d _ _ _ _ _ c.since_letters-from.ensures c.letters_at.ensures _ c.is_within.ensures c.if-is_within.true) _ _ c.joins_window.ensures c.loop-low.low (halving-end c.loop-low.invariant c.loop-low-test.false)

pub offset_bounds-items-i : goal.offset_bounds-items-i
offset_bounds-items-i c = let h = shift_in c.loop-i.invariant c.loop-i-test.true in omega arith

pub bounds-items-i : goal.bounds-items-i
bounds-items-i c = shift_in c.loop-i.invariant c.loop-i-test.true

pub offset_bounds-items-i-in-loop-i : goal.offset_bounds-items-i-in-loop-i
offset_bounds-items-i-in-loop-i c = let h = shift_in c.loop-i.invariant c.loop-i-test.true in omega arith

pub bounds-items-i-in-loop-i : goal.bounds-items-i-in-loop-i
bounds-items-i-in-loop-i c = shift_in c.loop-i.invariant c.loop-i-test.true

pub loop-i-preserved : goal.loop-i-preserved
loop-i-preserved c = shift-more c.loop-i.invariant c.loop-i-test.true _

pub offset_bounds-items-n : goal.offset_bounds-items-n
offset_bounds-items-n c = omega (arith, c.loop.invariant.room)

pub bounds-items-n : goal.bounds-items-n
bounds-items-n c = omega (arith, c.loop.invariant.room)

pub overflow_add-n : goal.overflow_add-n
overflow_add-n c = omega (arith, c.loop.invariant.room)

pub loop-preserved : goal.loop-preserved
loop-preserved c =
    let f = c.loop.invariant in
    let l = c.loop-test.true in
    let u = within-up _ _ c.args.sheet.now.lent.islands.now c.args.sheet.now.lent.points.now c.loop.d _ _ _ _ _ c.since_letters-from.ensures c.letters_at.ensures _ c.is_within.ensures in
    elim c.if-is_within.branch [
      | then-is_within+then-joins_window+else-loop-low-test+else-loop-i-test x ↦ filling-in f l (u x.if-is_within.true) _ _ x.joins_window.ensures _ (halving-end x.loop-low.invariant x.loop-low-test.false) x.if-joins_window.true x.loop-i.invariant x.loop-i-test.false c.if-is_within.n (x.n-is ∙ x.min-n.ensures) c.if-is_within.items x.items-is c.stand_next-d.result c.stand_next-d.ensures
      | then-is_within+else-joins_window x ↦ filling-by f l (u x.if-is_within.true) _ _ x.joins_window.ensures x.if-joins_window.false c.if-is_within.items x.items-is c.if-is_within.n x.n-is c.stand_next-d.result c.stand_next-d.ensures
      | else-is_within x ↦ filling-past f l (passed-by _ _ c.args.sheet.now.lent.islands.now c.args.sheet.now.lent.points.now c.loop.d _ _ _ _ _ c.since_letters-from.ensures c.letters_at.ensures _ c.is_within.ensures x.if-is_within.false) c.if-is_within.items x.items-is c.if-is_within.n x.n-is c.stand_next-d.result c.stand_next-d.ensures
    ]

pub returns-then-n-eq-WIDTH : goal.returns-then-n-eq-WIDTH
returns-then-n-eq-WIDTH c =
    let t = tables c.args.sheet.now.lent in
    let s = filling-end c.loop.invariant c.loop-test.false in
    elim c.then-n-eq-WIDTH.branch [
      | then-n-eq-WIDTH-via-then-n-eq-WIDTH w ↦ guided-full t c.args.guide.now c.loop-d.guided _ _ _ _ s w.if-n-eq-WIDTH.true
      | then-n-eq-WIDTH-via-else-n-eq-WIDTH+then-not-guided w ↦ unguided t c.args.guide.now c.loop-d.guided w.if-not-guided.true _ _ _ _ s
    ]

pub loop-d-smaller : goal.loop-d-smaller
loop-d-smaller c = rw c.if-not-guided.false (omega arith)

pub loop-d-preserved : goal.loop-d-preserved
loop-d-preserved c = tt
