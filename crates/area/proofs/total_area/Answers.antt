-- `area::total_area` meets its contract: `total` is the area of the rings passed, at most `edge-limit` for each of their vertices. Assumes nothing.
use native.Mathlib.Omega.{arith}
use borrow.Author.Rules.{rules}
use Rattle.std.proofs.lemmas.Result.{err_from_is_err_and}
use Rattle.area.proofs.AreaWays.{total-ways, total-start, total-none, total-refused, total-passed}
use Rattle.area.proofs.total_area.Goals as goal

pub loop-size-init : goal.loop-size-init
loop-size-init c = (total-start _ _ _, c.requires, total-none _)

pub overflow_add-total : goal.overflow_add-total
overflow_add-total c =
    let l = c.loop-size in
    (total-passed c.args.points.now c.args.from c.args.sizes.now l.total-bits l.at l.size-index l.invariant.0 c.loop-size-test.true _ c.from-n.ensures _ c.doubled_area.ensures _ c.in_ok-total.was l.invariant.1 l.invariant.2).fits

pub overflow_add-at : goal.overflow_add-at
overflow_add-at c =
    let l = c.loop-size in
    let passed = total-passed c.args.points.now c.args.from c.args.sizes.now l.total-bits l.at l.size-index l.invariant.0 c.loop-size-test.true _ c.from-n.ensures _ c.doubled_area.ensures _ c.in_ok-total.was l.invariant.1 l.invariant.2 in
    let left = passed.left in
    record { fits = omega (arith, left) }

pub loop-size-preserved : goal.loop-size-preserved
loop-size-preserved c =
    let l = c.loop-size in
    let passed = total-passed c.args.points.now c.args.from c.args.sizes.now l.total-bits l.at l.size-index l.invariant.0 c.loop-size-test.true _ c.from-n.ensures _ c.doubled_area.ensures _ c.in_ok-total.was l.invariant.1 l.invariant.2 in
    (passed.on, passed.left, passed.bound)

pub returns-in_err-total : goal.returns-in_err-total
returns-in_err-total c =
    let l = c.loop-size in
    let p = err_from_is_err_and c.from_residual.result c.from_residual.ensures.1 in
    rw (p.1, p.2) (total-refused c.args.points.now c.args.from c.args.sizes.now l.total-bits l.at l.size-index l.invariant.0 c.loop-size-test.true _ c.from-n.ensures _ c.doubled_area.ensures _ c.in_err-total.was)

pub returns : goal.returns
returns c = search (total-ways, rules)
