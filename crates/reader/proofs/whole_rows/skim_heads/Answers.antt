-- `reader::skim_heads` meets its contract. Assumes nothing.
use Rattle.reader.specs.Turn.{stand_of}
use Rattle.reader.proofs.Running.{turns-join}
use Rattle.reader.proofs.Rows.{skimmed-start}
use Rattle.reader.proofs.RowLoops.{due-is, not-vouched, row-asks, nth-asks, ring-asks, behind-turns, end-asks, end-less, ring-turns, skim-again}
use native.Mathlib.Omega.{arith}
use Rattle.reader.proofs.whole_rows.skim_heads.Goals as goal

pub loop-h-init : goal.loop-h-init
loop-h-init c = skimmed-start _ _ _ (rw (due-is c.args.d c.requires.1) c.requires.0)

pub head_at-requires : goal.head_at-requires
head_at-requires c = (not-vouched _ _ _, c.loop-h.invariant.within.small)

pub returns-in_default : goal.returns-in_default
returns-in_default c = rw (← due-is c.args.d c.requires.1, c.stand_of.ensures) c.loop-h.invariant.turns

pub row_more-behind-requires : goal.row_more-behind-requires
row_more-behind-requires c = row-asks c.loop-h.invariant.within c.in-Some.h c.in-Some.ensures

pub only_ring-requires : goal.only_ring-requires
only_ring-requires c = ring-asks c.loop-h.invariant.within c.in-Some.h c.in-Some.ensures

pub overflow_add-nth : goal.overflow_add-nth
overflow_add-nth c = omega (arith, nth-asks c.loop-h.invariant.within c.in-Some.h c.in-Some.ensures)

pub returns-in_default-only_ring : goal.returns-in_default-only_ring
returns-in_default-only_ring c = rw (← due-is c.args.d c.requires.1) (turns-join c.loop-h.invariant.turns (behind-turns c.loop-h.invariant.within c.in-Some.h c.in-Some.ensures _ c.opened-state.ensures _ c.row_more-behind.ensures _ c.stand_of-in_default-only_ring.ensures))

pub overflow_add-nth-in-loop-h : goal.overflow_add-nth-in-loop-h
overflow_add-nth-in-loop-h c = omega (arith, nth-asks c.loop-h.invariant.within c.in-Some.h c.in-Some.ensures)

pub overflow_mul-nth : goal.overflow_mul-nth
overflow_mul-nth c = omega (arith, (end-asks c.loop-h.invariant.within c.in-Some.h c.in-Some.ensures _ (ring-turns c.loop-h.invariant c.in-Some.h c.in-Some.ensures c.in-Some-only_ring.end c.in-Some-only_ring.ensures)).0)

pub overflow_add-nth-in-loop-h-2 : goal.overflow_add-nth-in-loop-h-2
overflow_add-nth-in-loop-h-2 c = omega (arith, (end-asks c.loop-h.invariant.within c.in-Some.h c.in-Some.ensures _ (ring-turns c.loop-h.invariant c.in-Some.h c.in-Some.ensures c.in-Some-only_ring.end c.in-Some-only_ring.ensures)).1)

pub points_more-needs-requires : goal.points_more-needs-requires
points_more-needs-requires c = rw c.row_more-behind.ensures (end-asks c.loop-h.invariant.within c.in-Some.h c.in-Some.ensures _ (ring-turns c.loop-h.invariant c.in-Some.h c.in-Some.ensures c.in-Some-only_ring.end c.in-Some-only_ring.ensures)).2

pub loop-h-smaller : goal.loop-h-smaller
loop-h-smaller c = end-less c.loop-h.invariant.within c.in-Some.h c.in-Some.ensures _ (ring-turns c.loop-h.invariant c.in-Some.h c.in-Some.ensures c.in-Some-only_ring.end c.in-Some-only_ring.ensures)

pub loop-h-preserved : goal.loop-h-preserved
loop-h-preserved c = skim-again c.loop-h.invariant c.in-Some.h c.in-Some.ensures c.in-Some-only_ring.end c.in-Some-only_ring.ensures _ _ c.row_more-behind.ensures c.points_more-needs.ensures
