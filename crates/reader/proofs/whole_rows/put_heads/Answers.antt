-- `reader::put_heads` meets its contract. Assumes nothing.
use mathlib.Core.Bool.{not}
use borrow.Author.Tests.{not-false}
use mathlib.Core.Path.{◌∙◌, ap}
use mathlib.Core.List.{[]}
use native.Mathlib.Omega.{arith}
use Rattle.reader.specs.Turn.{stand_of}
use Rattle.reader.proofs.RowLoops.{row-asks, nth-asks, ring-asks, end-asks, end-less, rowing_start, rowing-vouched, rowing-puts, store_asks, into-asks, into-turns, put-behind, put-again}
use Rattle.reader.proofs.whole_rows.put_heads.Goals as goal

pub loop-h-init : goal.loop-h-init
loop-h-init c = rowing_start _ _ c.args.d _ _ _ c.requires.2 c.requires.0 c.requires.1

pub head_at-requires : goal.head_at-requires
head_at-requires c = (rowing-vouched c.loop-h.invariant, (c.loop-h.invariant []).within.small)

pub shape_of-rows-in_default : goal.shape_of-rows-in_default
shape_of-rows-in_default c = (c.loop-h.invariant []).kept.rows-kept

pub shape_of-letters-in_default : goal.shape_of-letters-in_default
shape_of-letters-in_default c = (c.loop-h.invariant []).kept.letters-kept

pub shape_of-points-in_default : goal.shape_of-points-in_default
shape_of-points-in_default c = (c.loop-h.invariant []).kept.points_kept

pub returns-in_default : goal.returns-in_default
returns-in_default c = rowing-puts c.args.d c.requires.2 c.loop-h.invariant _ c.stand_of.ensures

pub shape_of-rows-then-not-holds_head : goal.shape_of-rows-then-not-holds_head
shape_of-rows-then-not-holds_head c = (c.loop-h.invariant []).kept.rows-kept

pub shape_of-letters-then-not-holds_head : goal.shape_of-letters-then-not-holds_head
shape_of-letters-then-not-holds_head c = (c.loop-h.invariant []).kept.letters-kept

pub shape_of-points-then-not-holds_head : goal.shape_of-points-then-not-holds_head
shape_of-points-then-not-holds_head c = (c.loop-h.invariant []).kept.points_kept

pub returns-then-not-holds_head : goal.returns-then-not-holds_head
returns-then-not-holds_head c = rowing-puts c.args.d c.requires.2 c.loop-h.invariant _ c.stand_of-then-not-holds_head.ensures

pub head_into-requires : goal.head_into-requires
head_into-requires c = record { head_few = store_asks c.loop-h.invariant c.in-Some.h c.in-Some.ensures; row_width_in_bounds = (c.holds_head.ensures (not-false c.holds_head.result (ap not c.if-not-holds_head.false))) }

pub row_more-behind-requires : goal.row_more-behind-requires
row_more-behind-requires c = row-asks (c.loop-h.invariant []).within c.in-Some.h c.in-Some.ensures

pub only_into-requires : goal.only_into-requires
only_into-requires c = record { at_in_bounds = ring-asks (c.loop-h.invariant []).within c.in-Some.h c.in-Some.ensures; usual = into-asks c.loop-h.invariant c.in-Some.h c.in-Some.ensures }

pub overflow_add-nth : goal.overflow_add-nth
overflow_add-nth c = omega (arith, nth-asks (c.loop-h.invariant []).within c.in-Some.h c.in-Some.ensures)

pub shape_of-rows-in_default-only_into : goal.shape_of-rows-in_default-only_into
shape_of-rows-in_default-only_into c = c.head_into.auto.rows ∙ (c.loop-h.invariant []).kept.rows-kept

pub shape_of-letters-in_default-only_into : goal.shape_of-letters-in_default-only_into
shape_of-letters-in_default-only_into c = c.head_into.auto.letters ∙ (c.loop-h.invariant []).kept.letters-kept

pub shape_of-points-in_default-only_into : goal.shape_of-points-in_default-only_into
shape_of-points-in_default-only_into c = c.only_into.auto.points ∙ (c.loop-h.invariant []).kept.points_kept

pub returns-in_default-only_into : goal.returns-in_default-only_into
returns-in_default-only_into c = rowing-puts c.args.d c.requires.2 (put-behind c.loop-h.invariant c.in-Some.h c.in-Some.ensures _ _ c.head_into.ensures.rows_after c.head_into.ensures.letters_after c.head_into.auto.rows c.head_into.auto.letters _ c.in_default-only_into.ensures _ c.opened-state.ensures _ c.row_more-behind.ensures) _ c.stand_of-in_default-only_into.ensures

pub overflow_add-nth-in-loop-h : goal.overflow_add-nth-in-loop-h
overflow_add-nth-in-loop-h c = omega (arith, nth-asks (c.loop-h.invariant []).within c.in-Some.h c.in-Some.ensures)

pub overflow_mul-nth : goal.overflow_mul-nth
overflow_mul-nth c = omega (arith, (end-asks (c.loop-h.invariant []).within c.in-Some.h c.in-Some.ensures _ (into-turns c.loop-h.invariant c.in-Some.h c.in-Some.ensures _ _ c.in-Some-only_into.ensures)).0)

pub overflow_add-nth-in-loop-h-2 : goal.overflow_add-nth-in-loop-h-2
overflow_add-nth-in-loop-h-2 c = omega (arith, (end-asks (c.loop-h.invariant []).within c.in-Some.h c.in-Some.ensures _ (into-turns c.loop-h.invariant c.in-Some.h c.in-Some.ensures _ _ c.in-Some-only_into.ensures)).1)

pub points_more-needs-requires : goal.points_more-needs-requires
points_more-needs-requires c = rw c.row_more-behind.ensures (end-asks (c.loop-h.invariant []).within c.in-Some.h c.in-Some.ensures _ (into-turns c.loop-h.invariant c.in-Some.h c.in-Some.ensures _ _ c.in-Some-only_into.ensures)).2

pub loop-h-smaller : goal.loop-h-smaller
loop-h-smaller c = end-less (c.loop-h.invariant []).within c.in-Some.h c.in-Some.ensures _ (into-turns c.loop-h.invariant c.in-Some.h c.in-Some.ensures _ _ c.in-Some-only_into.ensures)

pub loop-h-preserved : goal.loop-h-preserved
loop-h-preserved c = put-again c.loop-h.invariant c.in-Some.h c.in-Some.ensures _ _ c.head_into.ensures.rows_after c.head_into.ensures.letters_after c.head_into.auto.rows c.head_into.auto.letters _ _ c.in-Some-only_into.ensures c.only_into.auto.points _ _ c.row_more-behind.ensures c.points_more-needs.ensures
