-- `edit::points_stay` meets its contract: the points passed stay. Assumes nothing.
use lib.IntN.{ℤ}
use mir.Facts.{to_z-of_z}
use mathlib.Core.Path.{◌≡◌, refl, ap}
use mathlib.Core.Bool.{true, false, not}
use native.Mathlib.Omega.{arith}
use Rattle.plane.specs.Moved.{moved}
use Rattle.made.specs.Made.{are_reals}
use Rattle.edit.proofs.PartWays.{unbits}
use Rattle.edit.proofs.PointMoves.{points-over, points-off, points_on}
use Rattle.edit.proofs.moving.points_stay.Goals as goal

pub loop-k-init : goal.loop-k-init
loop-k-init c = (omega arith, refl)

pub overflow_mul-k : goal.overflow_mul-k
overflow_mul-k c = omega (arith, c.requires.0, c.loop-k-test.true)

pub pair_stays-requires : goal.pair_stays-requires
pair_stays-requires c = (omega (arith, c.requires.0, c.loop-k-test.true), rw (to_z-of_z c.ranges.dx) c.requires.1, rw (to_z-of_z c.ranges.dy) c.requires.2)

pub returns-then-not-pair_stays : goal.returns-then-not-pair_stays
returns-then-not-pair_stays c = unbits (λ (x y : ℤ). false ≡ are_reals (moved x y c.args.s.now)) c.ranges.dx c.ranges.dy (points-off _ _ _ _ c.requires.0 _ c.loop-k.invariant.1 c.loop-k-test.true _ c.pair_stays.ensures (ap not c.if-not-pair_stays.true))

pub loop-k-smaller : goal.loop-k-smaller
loop-k-smaller c = let h = c.loop-k-test.true in omega arith

pub loop-k-preserved : goal.loop-k-preserved
loop-k-preserved c = (omega (arith, c.loop-k-test.true), points_on _ _ _ _ c.requires.0 _ c.loop-k.invariant.1 c.loop-k-test.true _ c.pair_stays.ensures (ap not c.if-not-pair_stays.false))

pub returns : goal.returns
returns c = unbits (λ (x y : ℤ). true ≡ are_reals (moved x y c.args.s.now)) c.ranges.dx c.ranges.dy (points-over _ _ _ _ c.requires.0 _ c.loop-k.invariant.1 c.loop-k-test.false)
